-- Where messages end that lie one after another, and which more lie there once others follow.
use Rattle.std.proofs.Common.{◌≡◌, ℕ, ◌+◌, ◌<◌, ◌≤◌, List, [], ◌∷◌, ◌++◌, refl, ap, sym, subst, inl, inr, arith}
use Rattle.std.specs.List.{Contains}
use Rattle.std.proofs.lemmas.List.Elements.{Contains-append_left}
use Rattle.udt_model.specs.declared.packets.Flags.{Flags}
use Rattle.udt_laws.proofs.laid_messages.Layout.{LaidMessage, AreLaidOut, IsBlockOf}
use Rattle.udt_laws.proofs.laid_messages.LayoutLemmas.{Covers, lies-from, one-message, first-covered}
use Rattle.udt_model.proofs.Members.{none-contained, contained-cases}

-- the offset at which messages end that begin at this one
unfoldable pub layout_end : ℕ → List LaidMessage → ℕ
layout_end start [] = start
layout_end start (laid ∷ others) = layout_end (laid.message.last + 1) others

-- ---- more of them

pub layout_end-append : (start : ℕ) (messages more : List LaidMessage)
    → layout_end start (messages ++ more) ≡ layout_end (layout_end start messages) more
unfolding layout_end
layout_end-append start [] more = refl
layout_end-append start (first ∷ others) more = layout_end-append (first.message.last + 1) others more

-- those that begin where others end lie after them
pub laid_out-append : (payload start : ℕ) (messages more : List LaidMessage) → AreLaidOut payload start messages
    → AreLaidOut payload (layout_end start messages) more → AreLaidOut payload start (messages ++ more)
unfolding AreLaidOut layout_end
laid_out-append payload start [] more one two = two
laid_out-append payload start (first ∷ others) more one two =
    (one.0, one.1, one.2, laid_out-append payload (first.message.last + 1) others more one.3 two)

-- a block of one of them is one of more
pub block_of-more : (payload : ℕ) (messages more : List LaidMessage) (offset : ℕ) (flags : Flags) (bytes : List ℕ)
    → IsBlockOf payload messages offset flags bytes → IsBlockOf payload (messages ++ more) offset flags bytes
block_of-more payload messages more offset flags bytes is = record {
  laid = is.laid;
  among = Contains-append_left messages more is.laid is.among;
  from = is.from;
  to = is.to;
  flagged = is.flagged;
  carries = is.carries;
}

-- ---- which offsets they have

-- they end at or after the start
pub layout_end-above : (payload start : ℕ) (messages : List LaidMessage) → AreLaidOut payload start messages → start ≤ layout_end start messages
unfolding AreLaidOut layout_end
layout_end-above payload start [] lie = omega arith
layout_end-above payload start (first ∷ others) lie =
    omega (arith, lie.2, layout_end-above payload (first.message.last + 1) others lie.3)

-- each of them ends before that
pub laid-below : (payload start : ℕ) (messages : List LaidMessage) (laid : LaidMessage) → AreLaidOut payload start messages
    → Contains messages laid → laid.message.last < layout_end start messages
unfolding AreLaidOut layout_end
laid-below payload start [] laid lie among = absurd (none-contained laid among)
laid-below payload start (first ∷ others) laid lie among = elim (contained-cases first others laid among) [
  | inl same ↦
      let last : first.message.last ≡ laid.message.last = ap (λ (x : LaidMessage). x.message.last) same in
      omega (arith, last, layout_end-above payload (first.message.last + 1) others lie.3)
  | inr later ↦ laid-below payload (first.message.last + 1) others laid lie.3 later
]

-- two messages that begin at the same offset are the same
pub same-first : (payload start : ℕ) (messages : List LaidMessage) (one other : LaidMessage) → 1 ≤ payload
    → AreLaidOut payload start messages → Contains messages one → Contains messages other → one.message.first ≡ other.message.first
    → one ≡ other
same-first payload start messages one other some lie among too same =
    let covered = first-covered payload some start one (lies-from payload some start messages one lie among) in
    let covered_too = first-covered payload some start other (lies-from payload some start messages other lie too) in
    one-message payload some start messages one other one.message.first lie among too covered
    (subst (Covers other) (sym same) covered_too)
