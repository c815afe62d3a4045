-- What passes of an outbox put and took.
use Rattle.std.specs.Prelude.{◌≡◌, ◌⊎◌, ℕ, ◌+◌, List, [], ◌∷◌, length, map}
use Rattle.crossbeam_queue.specs.Passes as queue
use Rattle.udt_model.specs.State.{Datagram}
use Rattle.udt_model.specs.declared.addresses.Addr.{Addr}
use Rattle.udt_queues.specs.declared.view.Right.TheVariants.{Alone}
use Rattle.udt_queues.specs.declared.view.Entry.{Entry}
use Rattle.udt_queues.specs.declared.view.Hand.{Hand}
use Rattle.udt_queues.specs.declared.view.View.{View}
use Rattle.udt_queues.specs.declared.outbox.Outbox.{Outbox}
use Rattle.udt_queues.specs.declared.outbox.OutPass.{OutPass}
use Rattle.udt_queues.specs.Lines.{Works, Puts, Takes}
use Rattle.udt_queues.specs.Told.{WasEmpty, WasFull}

-- what the pass knows of the filled buffers, and of the spare ones
abbrev pub filled_of : OutPass → View Datagram
filled_of p = queue.view p.filled

abbrev pub spare_of : OutPass → View Datagram
spare_of p = queue.view p.spare

-- the pass is of this outbox
pub record IsOutPassOf (outbox : Outbox) (p : OutPass) : Type 0 where
  pub filled : queue.IsPassOf outbox.filled p.filled
  pub spare : queue.IsPassOf outbox.spare p.spare
  pub puts : Works (filled_of p)
  pub stocks : Works (spare_of p)

-- how many filled buffers the outbox has room for
abbrev pub room_of : Outbox → ℕ
room_of outbox = queue.ruled_capacity outbox.filled

module _ {T : Type 0} where
  -- what the own hand of a view put, and what it took
  abbrev pub put_of : List (Hand T) → List T
  put_of [] = []
  put_of (h ∷ hs) = h.put

  abbrev pub took_of : List (Hand T) → List (Entry T)
  took_of [] = []
  took_of (h ∷ hs) = h.took

  -- the names of its hands, each with the number of names that were made of it
  abbrev pub names_of : View T → List (List ℕ × ℕ)
  names_of v = map (λ h. (h.name, h.made)) v.hands

-- the pass put one datagram more, and took nothing
abbrev pub PutsOut : Addr → List ℕ → OutPass → OutPass → Type 0
PutsOut to bytes p q = Puts (filled_of p) (record { addr = to; bytes = bytes }) (filled_of q)

-- the pass took one datagram more, and put nothing
abbrev pub TakesOut : Addr → List ℕ → OutPass → OutPass → Type 0
TakesOut to bytes p q = Takes (filled_of p) (record { addr = to; bytes = bytes }) (filled_of q)

-- the names of the pass, of both kinds of buffers, stay
abbrev pub KeepsNames : OutPass → OutPass → Type 0
KeepsNames p q = (names_of (filled_of q) ≡ names_of (filled_of p)) × (names_of (spare_of q) ≡ names_of (spare_of p))

-- the number of buffers that its own hands pushed, and that they popped
abbrev pub pushed_by : OutPass → ℕ
pushed_by p = length (put_of (filled_of p).hands) + length (put_of (spare_of p).hands)

abbrev pub popped_by : OutPass → ℕ
popped_by p = length (took_of (filled_of p).hands) + length (took_of (spare_of p).hands)

-- between the two it pushed as many buffers as it popped
abbrev pub KeepsNoBuffer : OutPass → OutPass → Type 0
KeepsNoBuffer p q = pushed_by q + popped_by p ≡ pushed_by p + popped_by q

-- no spare buffer was there at a step of a call: none of them was in its queue, or the queue of the filled ones was full
abbrev pub HadNoSpare : Outbox → OutPass → Type 0
HadNoSpare outbox p = WasEmpty (spare_of p) ⊎ WasFull (room_of outbox) (filled_of p)

-- one hand alone put this number of spare buffers, and took none
abbrev pub Stocked : ℕ → View Datagram → Type 0
Stocked n v = (buffers : List Datagram) × (length buffers ≡ n)
    × (v ≡ record { hands = record { name = []; made = 0; right = Alone; put = buffers; took = [] } ∷ [] })
