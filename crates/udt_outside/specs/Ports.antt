-- What a port gives and takes.
use Rattle.std.specs.Prelude.{◌≡◌, ℕ, ◌≤◌, List, [], ◌∷◌, ◌++◌, Option, Some, IfSome, take}
use Rattle.udt_model.specs.declared.addresses.Addr.{Addr}
use Rattle.udt_model.specs.State.{Datagram}
use Rattle.udt_outside.specs.Faults.{Rose}
use Rattle.udt_outside.specs.declared.ports.Heard.{Heard}
use Rattle.udt_outside.specs.declared.ports.Heard.TheVariants as heard

-- where it is told which datagrams passed, one more passed, with this address
abbrev pub Adds : Option (List Datagram) → Option (List Datagram) → Addr → List ℕ → Type 0
Adds before after addr bytes =
    IfSome before (λ passed. after ≡ Some (passed ++ record { addr = addr; bytes = bytes } ∷ []))

-- a datagram that was heard is the prefix of the buffer, and is told with its sender; Quiet tells none
abbrev pub Gave : Heard → Option (List Datagram) → Option (List Datagram) → List ℕ → Type 0
Gave (heard.Datagram len from) before after buffer = Adds before after from (take len buffer)
Gave heard.Quiet before after buffer = after ≡ before

-- the bytes that were said are told with their receiver
abbrev pub Took : Option (List Datagram) → Option (List Datagram) → List ℕ → Addr → Type 0
Took before after bytes to = Adds before after to bytes

-- a datagram that was heard has at most this many bytes
abbrev pub Fits : Heard → ℕ → Type 0
Fits (heard.Datagram len from) room = len ≤ room
Fits heard.Quiet room = Unit {0}

-- Quiet comes only where the count of quiet answers rose
abbrev pub QuietRose : Heard → ℕ → ℕ → Type 0
QuietRose (heard.Datagram len from) before after = Unit {0}
QuietRose heard.Quiet before after = Rose before after
