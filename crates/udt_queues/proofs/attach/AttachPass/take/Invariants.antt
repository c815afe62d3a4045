use Rattle.std.proofs.Common.{◌≡◌, ◌<◌, ℕ, true, Some}
use Rattle.std.specs.Prelude.{slice_get}
use Rattle.udt_queues.specs.declared.view.View.{View}
use Rattle.udt_queues.specs.Lists.{IsFoundEmpty}
use Rattle.udt_queues.specs.Messages.{views_of, takes_of, lists_of}
use Rattle.udt_queues.proofs.attach.AttachPass.take.Given as goal

abbrev pub invariant-loop-i : goal.invariant-loop-i
invariant-loop-i g l = record {
  views : views_of l.self ≡ views_of l.fn.self;
  takes : takes_of l.self ≡ takes_of l.fn.self;
  lists : lists_of l.self ≡ lists_of l.fn.self;
  found : (k : ℕ) (v : View _) → k < l.i → slice_get (takes_of l.fn.self) k ≡ Some true → slice_get (views_of l.fn.self) k ≡ Some v → IsFoundEmpty v;
}
