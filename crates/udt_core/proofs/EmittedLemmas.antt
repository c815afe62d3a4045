-- What is emitted, as the definitions of the calls name it.
use Rattle.std.proofs.Common.{◌≡◌, List, [], ◌∷◌, map, refl}
use Rattle.udt_model.specs.Calls.{stamp_of, emitted_by_packing}
use Rattle.udt_model.specs.Losses.{LostRange}
use Rattle.udt_model.specs.Rate.{Ways}
use Rattle.udt_model.specs.SendHalf.{Packing, Waits, Retransmits, Drops, Sends, Idles, packet_of}
use Rattle.udt_model.specs.State.{State, Emission}
use Rattle.udt_model.specs.Ticks.{nak_of}
use Rattle.udt_core.specs.Emitted.{datagrams_to, nak_where_any}

module _ {C : Type 0} (s : State C) where
  -- the datagrams of a NAK
  pub nak-datagrams : (ranges : List LostRange)
      → map (λ (e : Emission). e.datagram) (nak_of s ranges) ≡ datagrams_to s.peer.addr (nak_where_any (stamp_of s) s.peer.id s.receiving.isn ranges)
  nak-datagrams [] = refl
  nak-datagrams (range ∷ ranges) = refl

  -- the datagrams of packing
  pub packing-datagrams : (w : Ways C) (p : Packing)
      → map (λ (e : Emission). e.datagram) (emitted_by_packing w s p) ≡ datagrams_to s.peer.addr (packet_of s.sending (stamp_of s) s.peer.id p)
  packing-datagrams w (Waits until) = refl
  packing-datagrams w (Retransmits offset block) = refl
  packing-datagrams w (Drops message) = refl
  packing-datagrams w (Sends block) = refl
  packing-datagrams w Idles = refl
