-- Looking a member up in a poll's map.
use Rattle.std.proofs.Common.{◌≡◌, ◌≢◌, ℕ, false, List, Option, Some, None, IsNone, refl, sym, ◌∙◌, ap, subst}
use Rattle.std.specs.Ordering.{nat_cmp}
use Rattle.std.specs.Option.{option_map}
use Rattle.std.specs.Map.{lookup}
use Rattle.std.specs.BTreeMap.{BTreeMap, is_at, get, Updates, IsOrdered}
use Rattle.std.specs.Cmp.{unsigned_tied}
use Rattle.std.specs.List.Sorted.{IsStrictlySortedBy}
use Rattle.std.proofs.lemmas.Bool.{ne_eqb}
use Rattle.std.proofs.lemmas.Map.Made.{lookup-map_values, keys_of-map_values}
use Rattle.udt_epoll.specs.Members.{Watch, member_at, IsInOrder, ChangesOnly}
use Rattle.udt_epoll.specs.Inside.{watch_of, listed}
use Rattle.udt_epoll.specs.declared.asking.Watched.{Watched}

-- another ID is at another place
apart : (id other : ℕ) → other ≢ id → is_at (nat_cmp id) other ≡ false
apart id other differ = unsigned_tied id other ∙ ne_eqb id other (λ same. differ (sym same))

module _ {M : Type 0} where
  -- the member with an ID is what the map has there
  pub member_at-listed : (es : List (ℕ × Watched M)) (id : ℕ) → member_at (listed es) id ≡ option_map watch_of (lookup (is_at (nat_cmp id)) es)
  member_at-listed es id = lookup-map_values watch_of (is_at (nat_cmp id)) es

  -- a map that changes at one ID lists members that do
  pub changes-listed : (old new : BTreeMap ℕ (Watched M)) (id : ℕ) (watched : Option (Watched M)) → Updates nat_cmp old new id watched → ChangesOnly (listed old.entries) (listed new.entries) id (option_map watch_of watched)
  changes-listed old new id watched updates =
      record {
        changed = member_at-listed new.entries id ∙ ap (option_map watch_of) updates.1;
        others = λ other differ. member_at-listed new.entries other
            ∙ ap (option_map watch_of) (updates.2 other (apart id other differ))
            ∙ sym (member_at-listed old.entries other);
      }

  -- and an ordered map lists them in order
  pub order-listed : (m : BTreeMap ℕ (Watched M)) → IsOrdered nat_cmp m → IsInOrder (listed m.entries)
  order-listed m ordered =
      subst (IsStrictlySortedBy nat_cmp) (sym (keys_of-map_values watch_of m.entries)) ordered

  -- the watched member of an entry is that of its watch
  only_member : (watched : Option (Watched M)) → option_map (λ (w : Watch M). w.member) (option_map watch_of watched) ≡ option_map (λ (w : Watched M). w.member) watched
  only_member None = refl
  only_member (Some w) = refl

  -- so it is read from the map
  pub member-listed : (m : BTreeMap ℕ (Watched M)) (id : ℕ) (found : Option (Watched M)) → found ≡ get nat_cmp m id → option_map (λ (w : Watched M). w.member) found ≡ option_map (λ (w : Watch M). w.member) (member_at (listed m.entries) id)
  member-listed m id found is =
      ap (option_map (λ (w : Watched M). w.member)) is
      ∙ sym (only_member (get nat_cmp m id))
      ∙ ap (option_map (λ (w : Watch M). w.member)) (sym (member_at-listed m.entries id))

  -- what the map doesn't have is no member
  pub none-listed : (m : BTreeMap ℕ (Watched M)) (id : ℕ) → get nat_cmp m id ≡ None → IsNone (member_at (listed m.entries) id)
  none-listed m id none = rw (member_at-listed m.entries id, none) refl
