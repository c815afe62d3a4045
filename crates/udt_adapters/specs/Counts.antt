-- How the adapters count.
use Rattle.std.specs.Prelude.{ℕ, ◌+◌, ◌-◌, ◌^◌, min}
use Rattle.udt_outside.specs.declared.ports.Heard.{Heard}
use Rattle.udt_outside.specs.declared.ports.Heard.TheVariants.{Datagram, Quiet}
use Rattle.udt_outside.specs.declared.folder.Create.{Create}
use Rattle.udt_outside.specs.declared.folder.Create.TheVariants.{Made, Exists}

-- a count once one more was counted. It ends at 2^64 - 1
abbrev pub one_more : ℕ → ℕ
one_more count = min (count + 1) (2 ^ 64 - 1)

-- the count of quiet answers after this answer
abbrev pub quiets_after : ℕ → Heard → ℕ
quiets_after quiets (Datagram len from) = quiets
quiets_after quiets Quiet = one_more quiets

-- the count of names met after this answer
abbrev pub met_after : {O : Type 0} → ℕ → Create O → ℕ
met_after met (Made out) = met
met_after met Exists = one_more met
