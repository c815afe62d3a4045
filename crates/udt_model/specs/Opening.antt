-- How a socket begins, and with which values one can be opened.
use Rattle.std.specs.Prelude.{ℕ, ◌^◌, ◌<◌, ◌≤◌, min}
use Rattle.udt_model.specs.declared.limits.TheConstants.{LAST_MOMENT, LAST_START, MOST_PAYLOAD, FEWEST_BLOCKS, MOST_BLOCKS}
use Rattle.udt_model.specs.declared.answers.Peer.{Peer}
use Rattle.udt_model.specs.declared.packets.Config.{Config}
use Rattle.udt_model.specs.declared.addresses.Ip.TheVariants.{V4}
use Rattle.udt_model.specs.declared.answers.Origin.{Origin}
use Rattle.udt_model.specs.declared.answers.Origin.TheVariants as origin
use Rattle.udt_model.specs.Phases as phase
use Rattle.udt_model.specs.declared.sockets.Counters.{Counters}
use Rattle.udt_model.specs.Rate.{Ways}
use Rattle.udt_model.specs.ReceiveHalf.{idle_receiving, linked_receiving}
use Rattle.udt_model.specs.SendHalf.{idle_sending, linked_sending}
use Rattle.udt_model.specs.State.{State}
use Rattle.udt_model.specs.Timing.{unmeasured}

-- the values with which a socket can be opened: the payload and the blocks lie in their ranges
pub record CanOpen (config : Config) : Type 0 where
  pub payload : 1 ≤ config.payload
  pub most_payload : config.payload ≤ MOST_PAYLOAD
  pub snd_blocks : FEWEST_BLOCKS ≤ config.snd_blocks
  pub most_snd_blocks : config.snd_blocks ≤ MOST_BLOCKS
  pub rcv_blocks : FEWEST_BLOCKS ≤ config.rcv_blocks
  pub most_rcv_blocks : config.rcv_blocks ≤ MOST_BLOCKS

-- and those with which it can be opened as connected: the agreed payload isn't 0, and the start isn't too late
pub record CanPair (config : Config) (peer : Peer) (start : ℕ) : Type 0 where
  pub config_fits : CanOpen config
  pub peer_payload : 1 ≤ peer.payload
  pub within : start ≤ LAST_START

-- with these values and an ID and initial sequence number that fit their places a socket is opened
pub record IsOpened (own isn : ℕ) (config : Config) : Type 0 where
  pub values : CanOpen config
  pub own_fits : own < 2 ^ 32
  pub isn_fits : isn < 2 ^ 31

-- and so as connected, to a peer whose ID and initial sequence number fit theirs
pub record IsOpening (own : ℕ) (config : Config) (peer : Peer) (start : ℕ) : Type 0 where
  pub values : CanPair config peer start
  pub own_fits : own < 2 ^ 32
  pub id_fits : peer.id < 2 ^ 32
  pub isn_fits : peer.isn < 2 ^ 31

-- nothing was counted yet
abbrev pub no_counters : Counters
no_counters = record {
  sent = 0;
  resent = 0;
  placed = 0;
  double = 0;
  below = 0;
  above = 0;
  control = 0;
  stale = 0;
  foreign = 0;
  malformed = 0;
}

-- the peer of a socket that has none
abbrev pub nobody : Peer
nobody = record { addr = record { ip = V4 0; port = 0 }; id = 0; isn = 0; payload = 0; flow = 0 }

module _ {C : Type 0} (w : Ways C) where
  -- a socket without a connection, with this initial sequence number, whose directions both begin at this offset
  abbrev pub idle : ℕ → ℕ → Config → ℕ → ℕ → State C
  idle own isn config now start =
      let moment = min now LAST_MOMENT in
      record {
        own = own;
        kind = config.kind;
        isn = isn;
        peer = nobody;
        origin = origin.Nobody;
        opened = moment;
        last = moment;
        count = 0;
        phase = phase.Opened;
        heard = moment;
        exp_from = moment;
        exp_count = 1;
        rtt = unmeasured;
        sending = idle_sending w config start;
        receiving = idle_receiving config start;
        counters = no_counters;
      }

  -- the socket is connected to this peer now: the lesser payload is agreed on, and its timers start
  abbrev pub connected : State C → Peer → Origin → State C
  connected s peer from =
      let payload = min s.sending.blocks.room peer.payload in
      record s {
        peer = peer;
        origin = from;
        phase = phase.Connected;
        heard = s.last;
        exp_from = s.last;
        exp_count = 1;
        sending = linked_sending w s.sending s.isn payload peer.flow;
        receiving = linked_receiving s.receiving s.last peer.isn payload s.rtt;
      }

  -- a socket that has no connection yet
  unfoldable pub opened : ℕ → ℕ → Config → ℕ → State C
  opened own isn config now = idle own isn config now 0

  -- a socket that is connected from its opening on, whose directions both begin at this offset and at the peer's initial sequence
  -- number
  unfoldable pub opening : ℕ → Config → Peer → ℕ → ℕ → State C
  opening own config peer now start = connected (idle own peer.isn config now start) peer origin.Opening
