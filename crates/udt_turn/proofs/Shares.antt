-- What was made under some names: it stays all there as the history grows, and as more names are answered for.
use Rattle.std.proofs.Common.{◌≡◌, ℕ, Bool, true, false, true≢false, ◌||◌, List, [], ◌∷◌, ◌++◌, refl, sym, ap, ◌∙◌}
use Rattle.std.proofs.lemmas.List.{append-nil}
use Rattle.udt_turn.specs.History.{has, keep_if, mine_in}
use Rattle.udt_turn.specs.declared.view.Share.{Share}
use Rattle.udt_turn.specs.Rule.{Sees, IsShare}
use Rattle.udt_turn.specs.Kinds.{no_share}
use Rattle.udt_turn.proofs.Histories.{mine_in-append, sees_mine, keep_if-empty, has-append}

pub not_true : (b : Bool) → (b ≡ true → ⊥) → b ≡ false
not_true true f = absurd (f refl)
not_true false f = refl

-- a name of the one list is a name of both together
pub has_left : (ms ns : List ℕ) (m : ℕ) → has ms m ≡ true → has (ms ++ ns) m ≡ true
has_left ms ns m h = has-append ms ns m ∙ ap (λ b. b || has ns m) h

-- and so is a name of the other
pub has_right : (ms ns : List ℕ) (m : ℕ) → has ns m ≡ true → has (ms ++ ns) m ≡ true
has_right ms ns m h = has-append ms ns m ∙ last (has ms m) (has ns m) h
  where
    last : (a b : Bool) → b ≡ true → (a || b) ≡ true
    last true b h = refl
    last false b h = h

module _ {E : Type 0} where
  -- under no names nothing was made
  mine_in-nobody : (items : List (ℕ × E)) → mine_in [] items ≡ []
  mine_in-nobody [] = refl
  mine_in-nobody (x ∷ xs) = mine_in-nobody xs

  pub no_share_is : (names : List ℕ) (items : List (ℕ × E)) → IsShare names items no_share
  no_share_is names items = record { all = mine_in-nobody items; own = λ m h. absurd (true≢false (sym h)) }

  -- an item under another name is none of the share
  pub share_more : (names : List ℕ) (items : List (ℕ × E)) (y : ℕ × E) (s : Share E) → has names y.0 ≡ false → IsShare names items s → IsShare names (items ++ y ∷ []) s
  share_more names items y s other h = record {
    all = mine_in-append s.names items (y ∷ [])
        ∙ ap (λ (b : Bool). mine_in s.names items ++ keep_if b y []) (not_true (has s.names y.0) (λ q. true≢false (sym (h.own y.0 q) ∙ other)))
        ∙ append-nil (mine_in s.names items) ∙ h.all;
    own = h.own;
  }

  -- where nothing was made under some names, nothing was under fewer
  mine_in-fewer : (few names : List ℕ) (xs : List (ℕ × E)) → ((m : ℕ) → has few m ≡ true → has names m ≡ true) → mine_in names xs ≡ [] → mine_in few xs ≡ []
  mine_in-fewer few names [] own e = refl
  mine_in-fewer few names (x ∷ xs) own e =
      let parts = keep_if-empty (has names x.0) x (mine_in names xs) e in
      ap (λ (b : Bool). keep_if b x (mine_in few xs)) (not_true (has few x.0) (λ q. true≢false (sym (own x.0 q) ∙ parts.0)))
      ∙ mine_in-fewer few names xs own parts.1

  -- what the history has of the share, what was seen of it has too
  pub share_seen : (names : List ℕ) (seen items : List (ℕ × E)) (s : Share E) → Sees names seen items → IsShare names items s → mine_in s.names seen ≡ s.made
  share_seen names seen items s sees h =
      sym (append-nil (mine_in s.names seen)) ∙ ap (λ l. mine_in s.names seen ++ l) (sym (mine_in-fewer s.names names sees.rest h.own sees.none_of))
      ∙ sym (mine_in-append s.names seen sees.rest) ∙ ap (λ l. mine_in s.names l) (sym sees.is) ∙ h.all

  -- of two passes that come together the names of the one are a share
  pub share_left : (names others : List ℕ) (seen items : List (ℕ × E)) → Sees names seen items → IsShare (names ++ others) items (record { names = names; made = mine_in names seen })
  share_left names others seen items sees = record { all = sees_mine names seen items sees; own = has_left names others }

  -- and so are those of the other
  pub share_right : (others names : List ℕ) (seen items : List (ℕ × E)) → Sees names seen items → IsShare (others ++ names) items (record { names = names; made = mine_in names seen })
  share_right others names seen items sees = record { all = sees_mine names seen items sees; own = has_right others names }
