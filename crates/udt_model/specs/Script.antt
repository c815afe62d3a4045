-- A script: what each line does in the network, and what the lines print.
use Rattle.std.specs.Prelude.{ℕ, ◌+◌, ◌-◌, ◌==◌, Bool, true, false, not, ◌&&◌, ◌||◌, List, [], ◌∷◌, ◌++◌, length, take, map, Option, Some, None, Result, Ok, slice_get, slice_set, option_map, is_some, take_while, sum_by, nat_le, nat_lt, decimal, codes, if◌then◌else◌}
use Rattle.udt_model.specs.declared.limits.TheConstants.{MOST_SOCKETS, MOST_HOSTS, LONGEST_SCRIPT, LONGEST_LINE}
use Rattle.udt_model.specs.declared.addresses.Addr.{Addr}
use Rattle.udt_model.specs.declared.answers.Heard.TheVariants as heard
use Rattle.udt_model.specs.declared.answers.Peer.{Peer}
use Rattle.udt_model.specs.declared.packets.Config.{Config}
use Rattle.udt_model.specs.declared.scripts.ControlName.{ControlName}
use Rattle.udt_model.specs.declared.scripts.ControlName.TheVariants as control
use Rattle.udt_model.specs.declared.limits.TheConstants.{FIXED_PERIOD}
use Rattle.udt_model.specs.declared.packets.Shake.{Shake}
use Rattle.udt_model.specs.Connections.{config_of}
use Rattle.udt_model.specs.Handshakes.{peer_in}
use Rattle.udt_model.specs.State.{State, Datagram}
use Rattle.udt_model.specs.Step.{step}
use Rattle.udt_model.specs.Events.{Act, Listen, Meet, Accept, Offer, Withdraw, Arrive, Event, event, Reply, Accepted, DidHear, outs_of}
use Rattle.udt_model.specs.Controls.{fixed, additive}
use Rattle.udt_model.specs.Opening.{opened, opening}
use Rattle.udt_model.specs.Rate.{Ways, native}
use Rattle.udt_model.specs.History.{state_of, happened}
use Rattle.udt_model.specs.Words.{◌>>=◌, is_word}
use Rattle.udt_model.specs.Lines.{Pairing, OpeningLine, Line, Silent, PairLine, HostLine, OpenLine, AcceptLine, CallLine, DeliverLine, RawLine, read_line}
use Rattle.udt_model.specs.Network.{ScriptHost, ScriptSocket, ScriptDatagram, Network, empty_network, first_host, second_host, is_host, address_of_host, place_of, is_taken, holds_listener, holds_meeting, holds_any_meeting, first_id, Route, ToSocket, Nowhere, route}
use Rattle.udt_model.specs.Routes.{handshake_in}
use Rattle.udt_model.specs.Texts.{spaced, ended, datagrams_text, event_text, pair_text, host_text, open_text, accept_text, listen_twice_text, meet_taken_text}
use Rattle.udt_model.specs.Wire.{read}

-- ---- lines

-- what a line leaves, and what it prints
pub record Printed (C : Type 0) : Type 0 where
  pub network : Network C
  pub text : List ℕ

-- the pair of sockets, each the other's peer
abbrev pub pair_config : Pairing → Config
pair_config p = record { kind = p.kind; payload = p.payload; snd_blocks = p.blocks; rcv_blocks = p.blocks }

abbrev pub peer_of : Pairing → Addr → ℕ → Peer
peer_of p host id = record { addr = host; id = id; isn = p.isn; payload = p.payload; flow = p.blocks }

abbrev pub open_config : OpeningLine → Config
open_config o = record { kind = o.kind; payload = o.payload; snd_blocks = o.blocks; rcv_blocks = o.blocks }

-- the datagram as a socket at this host emitted it
abbrev pub from_host : Addr → Datagram → ScriptDatagram
from_host host datagram = record { from = host; to = datagram.addr; bytes = datagram.bytes }

-- the bytes of lines with a line feed after each
abbrev pub size_of : List (List ℕ) → ℕ
size_of lines = sum_by (λ line. length line + 1) lines

-- a line after these fits into a script
abbrev pub fits_after : List (List ℕ) → List ℕ → Bool
fits_after lines line = nat_le (size_of lines + length line) LONGEST_SCRIPT && nat_le (length line) LONGEST_LINE

-- the lines of a text, each with its line feed, which the last one may lack
abbrev pub onto_piece : ℕ → List (List ℕ) → List (List ℕ)
onto_piece byte [] = (byte ∷ []) ∷ []
onto_piece byte (piece ∷ pieces) = (byte ∷ piece) ∷ pieces

unfoldable pub pieces_of : List ℕ → List (List ℕ)
pieces_of [] = []
pieces_of (byte ∷ text) = if byte == 10 then (byte ∷ []) ∷ pieces_of text else onto_piece byte (pieces_of text)

-- the line without its line feed
abbrev pub line_in : List ℕ → List ℕ
line_in piece = take_while (λ byte. not (byte == 10)) piece

-- what a script prints, and whether a line of it was refused
pub record Played : Type 0 where
  pub text : List ℕ
  pub refused : Bool

-- the first refused line, by its number from 1 on
abbrev pub refused_at : ℕ → Played
refused_at number = record { text = codes "line " ++ spaced (decimal number) ++ ended (codes "refused"); refused = true }

abbrev pub then_played : ℕ → Option (List ℕ) → Played → Played
then_played number None others = refused_at number
then_played number (Some text) others = record others { text = text ++ others.text }

module _ {C : Type 0} where
  -- both names are new, and there is room for two sockets
  abbrev pub may_pair : Network C → Pairing → Bool
  may_pair n p =
      nat_le (length n.sockets + 2) MOST_SOCKETS && not (is_word p.a p.b) && not (is_taken p.a n) && not (is_taken p.b n)

  -- the name and the address of a host are new, and there is room for it
  abbrev pub may_host : Network C → List ℕ → Addr → Bool
  may_host n name addr = nat_lt (length n.hosts) MOST_HOSTS && not (is_taken name n) && not (is_host n.hosts addr)

  -- the name of a socket is new, and there is room for it
  abbrev pub may_open : Network C → List ℕ → Bool
  may_open n name = nat_lt (length n.sockets) MOST_SOCKETS && not (is_taken name n)

  -- the network with one more host
  abbrev pub with_host : Network C → List ℕ → Addr → Printed C
  with_host n name addr =
      record { network = record n { hosts = n.hosts ++ record { name = name; addr = addr } ∷ [] }; text = host_text name }

  -- the network with one more socket
  abbrev pub with_socket : Network C → ScriptSocket C → Network C
  with_socket n socket = record n { sockets = n.sockets ++ socket ∷ [] }

  -- the socket at this place is called so now
  abbrev pub named_at : Network C → ℕ → List ℕ → Option (ScriptSocket C) → Network C
  named_at n place name None = n
  named_at n place name (Some socket) = record n { sockets = slice_set n.sockets place (record socket { name = name }) }

  abbrev pub with_name : Network C → ℕ → List ℕ → Network C
  with_name n id name = named_at n (id - 1) name (slice_get n.sockets (id - 1))

  -- one thing after another
  abbrev pub and_then : Printed C → (Network C → Printed C) → Printed C
  and_then first next = record {
    network = (next first.network).network;
    text = first.text ++ (next first.network).text;
  }

  -- what a line leaves. A refused one leaves all as it was
  abbrev pub left_by : Network C → Option (Printed C) → Network C
  left_by n None = n
  left_by n (Some printed) = printed.network

module _ {C : Type 0} (w : Ways C) where
  abbrev pub paired_socket : Pairing → List ℕ → Addr → ℕ → Addr → ℕ → ScriptSocket C
  paired_socket p name host own peer_host peer = record {
    name = name;
    host = host;
    history = record { opening = opening w own (pair_config p) (peer_of p peer_host peer) 0 p.start; items = [] };
  }

  -- the network with two more sockets
  unfoldable pub paired : Network C → Pairing → Printed C
  paired n p = record {
    network = record n {
      sockets = n.sockets
          ++ paired_socket p p.a first_host (length n.sockets + 1) second_host (length n.sockets + 2)
          ∷ paired_socket p p.b second_host (length n.sockets + 2) first_host (length n.sockets + 1)
          ∷ [];
    };
    text = pair_text p (length n.sockets);
  }

  -- an event of the socket at this place
  unfoldable pub event_at : Network C → ℕ → ScriptSocket C → Event → Printed C
  event_at n place socket event =
      let outcome = step w (state_of w socket.history) event in
      let outs = map (from_host socket.host) (outs_of outcome) in
      record {
        network = record n {
          sockets = slice_set n.sockets place (record socket { history = happened w socket.history 0 event });
          datagrams = n.datagrams ++ outs;
        };
        text = event_text socket.name event.act outcome.reply ++ datagrams_text (length n.datagrams) outs;
      }

  -- the same, where there is a socket
  abbrev pub event_there : Network C → ℕ → Event → Printed C
  event_there n place event = event_if n place event (slice_get n.sockets place)
    where
      event_if : Network C → ℕ → Event → Option (ScriptSocket C) → Printed C
      event_if n place event None = record { network = n; text = [] }
      event_if n place event (Some socket) = event_at n place socket event

  -- ---- calls

  -- a call by its act: the places at the host come before what the socket itself refuses, and where one is taken nothing happens
  abbrev pub call_by : Network C → ℕ → ScriptSocket C → ℕ → Act → Printed C
  call_by n place socket now (Listen most secret) =
      if is_some (first_id (holds_listener w socket.host) n.sockets)
      then record { network = n; text = listen_twice_text socket.name }
      else event_at n place socket (event now (Listen most secret))
  call_by n place socket now (Meet to) =
      if is_some (first_id (holds_meeting w socket.host to) n.sockets) || holds_any_meeting w socket
      then record { network = n; text = meet_taken_text socket.name }
      else event_at n place socket (event now (Meet to))
  call_by n place socket now act = event_at n place socket (event now act)

  abbrev pub call_at : Network C → ℕ → ScriptSocket C → Event → Printed C
  call_at n place socket event = call_by n place socket event.now event.act

  -- what is done with the socket of this name, where there is one
  abbrev pub with_place : Network C → (ℕ → ScriptSocket C → Printed C) → Option ℕ → Option (Printed C)
  with_place n does None = None
  with_place n does (Some place) = option_map (does place) (slice_get n.sockets place)

  abbrev pub with_socket_of : Network C → List ℕ → (ℕ → ScriptSocket C → Printed C) → Option (Printed C)
  with_socket_of n name does = with_place n does (place_of name n.sockets)

  -- the connection that was accepted gets its name
  abbrev pub named_by : Printed C → List ℕ → List ℕ → Reply → Printed C
  named_by printed name accepted (Accepted (Ok id)) =
      record { network = with_name printed.network id accepted; text = accept_text name accepted id }
  named_by printed name accepted other = printed

  abbrev pub accept_at : Network C → ℕ → List ℕ → ℕ → ScriptSocket C → Printed C
  accept_at n now accepted place socket =
      named_by
      (event_at n place socket (event now Accept))
      socket.name accepted
      (step w (state_of w socket.history) (event now Accept)).reply

  -- ---- arrivals

  -- the socket that is made for a request at a listener
  abbrev pub made_for : Network C → ScriptSocket C → Addr → Shake → ScriptSocket C
  made_for n listener from shake =
      let config : Config = config_of (state_of w listener.history) in
      record {
        name = decimal (length n.sockets + 1);
        host = listener.host;
        history = record {
          opening = opening w (length n.sockets + 1) config (peer_in config from shake) 0 0;
          items = [];
        };
      }

  -- a place was promised: a socket is made, offered to the listener, and given the request; where there is no room for one, the
  -- promise is taken back
  abbrev pub offered : Network C → ℕ → ℕ → ScriptSocket C → ScriptDatagram → Shake → Printed C
  offered n now place listener datagram shake =
      if nat_lt (length n.sockets) MOST_SOCKETS
      then and_then
      (event_there (with_socket n (made_for n listener datagram.from shake)) place (event now (Offer (length n.sockets + 1))))
      (λ m. event_there m (length n.sockets) (event now (Arrive datagram.from datagram.bytes)))
      else event_there n place (event now Withdraw)

  -- what an arrival that was answered so leads to
  abbrev pub followed_by : Printed C → ℕ → ℕ → ScriptSocket C → ScriptDatagram → Option Shake → Reply → Printed C
  followed_by printed now place listener datagram (Some shake) (DidHear heard.Request) =
      and_then printed (λ m. offered m now place listener datagram shake)
  followed_by printed now place listener datagram shake reply = printed

  abbrev pub arrived : Network C → ℕ → ScriptDatagram → Route C → Printed C
  arrived n now datagram (ToSocket place socket) =
      let arrival : Event = event now (Arrive datagram.from datagram.bytes) in
      followed_by
      (event_at n place socket arrival)
      now place socket datagram
      (handshake_in (read datagram.bytes))
      (step w (state_of w socket.history) arrival).reply
  arrived n now datagram (Nowhere word) = record { network = n; text = codes "dropped " ++ ended word }

  -- the arrival of a datagram, where there is one
  abbrev pub delivery : Network C → ℕ → Option ScriptDatagram → Option (Printed C)
  delivery n now None = None
  delivery n now (Some datagram) = Some (arrived n now datagram (route w n datagram))

  -- ---- hosts and sockets

  -- a socket without a connection, at the host with this name
  abbrev pub opened_at : Network C → OpeningLine → Option Addr → Option (Printed C)
  opened_at n o None = None
  opened_at n o (Some host) =
      let own : ℕ = length n.sockets + 1 in
      Some (record {
        network = with_socket n (record {
          name = o.name;
          host = host;
          history = record { opening = opened w own o.isn (open_config o) 0; items = [] };
        });
        text = open_text o (length n.sockets);
      })

  -- what a line of this form does
  abbrev pub on_line : Network C → Line → Option (Printed C)
  on_line n Silent = Some (record { network = n; text = [] })
  on_line n (PairLine pairing) = if may_pair n pairing then Some (paired n pairing) else None
  on_line n (HostLine name addr) = if may_host n name addr then Some (with_host n name addr) else None
  on_line n (OpenLine opening) =
      if may_open n opening.name then opened_at n opening (address_of_host opening.host n.hosts) else None
  on_line n (CallLine name event) = with_socket_of n name (λ place socket. call_at n place socket event)
  on_line n (AcceptLine name now accepted) =
      if is_taken accepted n then None else with_socket_of n name (accept_at n now accepted)
  on_line n (DeliverLine number now) = delivery n now (slice_get n.datagrams number)
  on_line n (RawLine now datagram) = delivery n now (Some datagram)

  -- what a line of a script does, or None where it is refused
  unfoldable pub played_line : Network C → List ℕ → Option (Printed C)
  played_line n line = read_line line >>= on_line n

  -- ---- scripts

  -- the network after these lines, from this one on
  unfoldable pub network_from : Network C → List (List ℕ) → Network C
  network_from n [] = n
  network_from n (line ∷ lines) = network_from (left_by n (played_line n line)) lines

  -- the network that the lines of a script make
  abbrev pub network_after : List (List ℕ) → Network C
  network_after lines = network_from empty_network lines

  -- what one more line prints after these, or None where it is refused
  unfoldable pub printed_after : List (List ℕ) → List ℕ → Option (List ℕ)
  printed_after lines line =
      if fits_after lines line
      then option_map (λ (p : Printed C). p.text) (played_line (network_after lines) line)
      else None

  -- what a piece prints after these lines. A script is refused at the line that holds the first byte past its limit
  abbrev pub piece_printed : List (List ℕ) → List ℕ → Option (List ℕ)
  piece_printed lines piece =
      if nat_le (size_of lines + length piece) LONGEST_SCRIPT then printed_after lines (line_in piece) else None

  -- the rest of a script after these lines
  unfoldable pub played_from : List (List ℕ) → List (List ℕ) → Played
  played_from lines [] = record { text = []; refused = false }
  played_from lines (piece ∷ pieces) =
      then_played (length lines + 1) (piece_printed lines piece) (played_from (lines ++ line_in piece ∷ []) pieces)

  -- the output of a script under this control. No byte after the first one past the limit is looked at
  abbrev pub played_with : List ℕ → Played
  played_with text = played_from [] (pieces_of (take (LONGEST_SCRIPT + 1) text))

-- the output of a script under the control that a command names
unfoldable pub played : ControlName → List ℕ → Played
played control.Native text = played_with native text
played control.Fixed text = played_with (fixed FIXED_PERIOD) text
played control.Aimd text = played_with additive text
