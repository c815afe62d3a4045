-- Each side of a fork has fewer listings than the fork.
use Rattle.std.specs.Prelude.{◌≤◌, max, ◌∷◌, length}
use Rattle.std.proofs.Common.{arith, length-append}
use Rattle.udt_queues.specs.declared.tree.Link.{Link}
use Rattle.udt_queues.specs.declared.tree.Link.TheVariants.{Tip, Joint}
use Rattle.udt_queues.specs.declared.tree.Tree.TheDeep.{deep-Link}
use Rattle.udt_queues.specs.Trees.{listings_of}

pub depth_within : (n : Link) → max (deep-Link n) 0 ≤ length (listings_of n)
depth_within Tip = omega arith
depth_within (Joint f) = omega (arith, length-append f.value.left (f.value.listing ∷ f.value.right))
