-- What is written into a buffer, piece after piece.
use Rattle.std.specs.Prelude.{◌≡◌, ℕ, ◌+◌, ◌^◌, ◌<◌, List, ◌++◌, length, take, drop}
use Rattle.udt_model.specs.declared.addresses.Ip.{Ip}
use Rattle.udt_model.specs.declared.addresses.Ip.TheVariants.{V4, V6}

-- the text was written from one place to another, after what stood in front; what follows stayed
pub record Writes (before after : List ℕ) (from to : ℕ) (text : List ℕ) : Type 0 where
  pub ends : to ≡ from + length text
  pub front : take to after ≡ take from before ++ text
  pub rest : drop to after ≡ drop to before

-- the bits are as many as the kind of address has
abbrev pub IpFits : Ip → Type 0
IpFits (V4 bits) = bits < 2 ^ 32
IpFits (V6 bits) = bits < 2 ^ 128
