-- The laws of all histories, at what passes have seen.
use Rattle.std.proofs.Common.{◌≡◌, sym, subst}
use Rattle.std.specs.Prelude.{Some}
use Rattle.udt_laws.specs.Laws.{IsStream, CarriesMessages, AreInStep, ShowsMessages, Prefix, Messages}
use Rattle.udt_model.specs.History.{History}
use Rattle.udt_model.specs.Rate.{Ways}
use Rattle.udt_model.specs.Records.{own_peer}
use Rattle.udt_cell.specs.Headline.{SeenInStep, SeenMessages}

module _ {C : Type 0} (w : Ways C) (seen seen_by_peer : History C) where
  pub seen_in_step : Prefix w → SeenInStep w seen seen_by_peer
  seen_in_step law net addr socket other peer lawful honest here is_seen stream peer_is there own_is is_peers =
      subst (λ h. AreInStep w h seen_by_peer) is_seen
      (subst (λ h. AreInStep w socket.history h) is_peers
      (law net addr socket other peer lawful honest here
      (subst (λ h. IsStream h) (sym is_seen) stream) (subst (λ h. own_peer w h ≡ Some peer) (sym is_seen) peer_is)
      there own_is))

  pub seen_messages : Messages w → SeenMessages w seen seen_by_peer
  seen_messages law net addr socket other peer lawful honest here is_seen carries peer_is there own_is is_peers =
      subst (λ h. ShowsMessages w h seen_by_peer) is_seen
      (subst (λ h. ShowsMessages w socket.history h) is_peers
      (law net addr socket other peer lawful honest here
      (subst (λ h. CarriesMessages h) (sym is_seen) carries) (subst (λ h. own_peer w h ≡ Some peer) (sym is_seen) peer_is)
      there own_is))
