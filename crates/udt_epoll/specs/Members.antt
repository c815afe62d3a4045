-- The members of a poll, by their IDs.
use Rattle.std.specs.Prelude.{◌≡◌, ◌≢◌, ℕ, List, Option, refl}
use Rattle.std.specs.Coded.{Coded, code_by, coded×, coded_ℕ, coded_list}
use Rattle.std.specs.Ordering.{nat_cmp}
use Rattle.std.specs.Map.{lookup, keys_of}
use Rattle.std.specs.BTreeMap.{is_at}
use Rattle.std.specs.List.Sorted.{IsStrictlySortedBy}

-- a member, and the bits that it is watched for
pub record Watch (M : Type 0) : Type 0 where
  pub interest : ℕ
  pub member : M

-- the members of a poll, each after its ID
abbrev pub Members : Type 0 → Type 0
Members M = List (ℕ × Watch M)

-- a member is stored as the pair of its interest and itself
abbrev pub watch_code : {M : Type 0} → Coded M → Coded (Watch M)
watch_code {M} code =
    code_by (ℕ × M) (coded× coded_ℕ code) (λ w. (w.interest, w.member)) (λ p. record { interest = p.0; member = p.1 }) (λ _. refl)

abbrev pub members_code : {M : Type 0} → Coded M → Coded (Members M)
members_code {M} code = coded_list (coded× coded_ℕ (watch_code code))

module _ {M : Type 0} where
  -- the member with an ID
  abbrev pub member_at : Members M → ℕ → Option (Watch M)
  member_at members id = lookup (is_at (nat_cmp id)) members

  -- the IDs rise
  abbrev pub IsInOrder : Members M → Type 0
  IsInOrder members = IsStrictlySortedBy nat_cmp (keys_of members)

  -- one ID has this member now, or none, and each other ID has what it had
  pub record ChangesOnly (old new : Members M) (id : ℕ) (watch : Option (Watch M)) : Type 0 where
    pub changed : member_at new id ≡ watch
    pub others : (other : ℕ) → other ≢ id → member_at new other ≡ member_at old other
