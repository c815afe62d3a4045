-- What a call at an end does to its pass.
use Rattle.std.specs.Prelude.{◌≡◌, ℕ, ◌<◌, List, [], take}
use Rattle.udt_outside.specs.declared.ports.Heard.{Heard as What}
use Rattle.udt_outside.specs.declared.ports.Heard.TheVariants as what
use Rattle.udt_turn.specs.declared.story.Story as story
use Rattle.udt_turn.specs.declared.pass.Pass.{Pass}
use Rattle.udt_turn.specs.History.{value_of}
use Rattle.udt_turn.specs.Words.{seen_of, Adds, OnlySees}
use Rattle.udt_net.specs.declared.side.Side.{Side}
use Rattle.udt_net.specs.Networks.{Network, Spoken, Heard, tale_of_nets, waiting_at, last_count}

module _ {g : story.Ghosts Network Spoken} where
  -- the network as the pass has seen it
  abbrev pub net_of : Pass Network Spoken g → Network
  net_of pass = value_of tale_of_nets (seen_of pass)

  -- nothing waits at the end, where more could be heard
  pub record FindsNone (at : Side) (before after : Pass Network Spoken g) : Type 0 where
    pub only : OnlySees tale_of_nets before after
    pub none : waiting_at (net_of after) at ≡ []
    pub few : (net_of after).count < last_count

  -- the count stands where nothing more is said or heard
  pub record FindsLast (before after : Pass Network Spoken g) : Type 0 where
    pub only : OnlySees tale_of_nets before after
    pub last : (net_of after).count ≡ last_count

  -- an end heard the prefix of the buffer, or nothing waits there
  abbrev pub HearsAs : Side → What → List ℕ → Pass Network Spoken g → Pass Network Spoken g → Type 0
  HearsAs at (what.Datagram len from) buffer before after =
      Adds tale_of_nets (Heard at (record { addr = from; bytes = take len buffer })) before after
  HearsAs at what.Quiet buffer before after = FindsNone at before after
