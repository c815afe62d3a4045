-- No ID is drawn twice.
use Rattle.std.proofs.Common.{◌≡◌, ℕ, ◌+◌, ◌-◌, ◌*◌, ◌/◌, ◌%◌, ◌<◌, ◌≤◌, nat_lt, Some, sym, ap, subst, ◌∙◌, arith}
use Rattle.std.proofs.Math.Nat.{mul_comm}
use Rattle.std.proofs.lemmas.Bool.{ltb-true}
use Rattle.std.proofs.lemmas.Nat.{mod-mul-add, div-mul-add}
use Rattle.std.proofs.lemmas.Option.{cond_some}
use Rattle.udt_routes.specs.Drawers.{Draws, depth, draw, CanDraw, DrawsOnce}

-- a number in rows of one width has one row and one place
module _ (w i j p q : ℕ) (in_row : p < w) (in_other : q < w) (same : w * i + p ≡ w * j + q) where
  turned : i * w + p ≡ j * w + q
  turned = ap (λ n. n + p) (mul_comm i w) ∙ same ∙ ap (λ n. n + q) (mul_comm w j)

  same_place : p ≡ q
  same_place = sym (mod-mul-add i w p in_row) ∙ ap (λ n. n % w) turned ∙ mod-mul-add j w q in_other

  same_row : i ≡ j
  same_row = sym (div-mul-add i w p in_row) ∙ ap (λ n. n / w) turned ∙ div-mul-add j w q in_other

back_up : (first ids n id : ℕ) → ids ≤ first → n < ids → first - n ≡ id → n + id ≡ first
back_up first ids n id in_range below is = omega arith

equal_depths : (m n id first other : ℕ) → m + id ≡ first → n + id ≡ other → first ≡ other → m ≡ n
equal_depths m n id first other one two same = omega arith

-- an ID lies below the first one by its depth
depth_of_id : (d : Draws) (i id : ℕ) → CanDraw d → draw d i ≡ Some id → depth d i + id ≡ d.first
depth_of_id d i id can drawn =
    let parts = cond_some (nat_lt (depth d i) d.ids) (d.first - depth d i) id drawn in
    back_up d.first d.ids (depth d i) id can.ids (ltb-true (depth d i) d.ids parts.0) parts.1

-- so the ID says which drawer gave it, and when
pub each_once : DrawsOnce
each_once d e i j id can others first drawers mine theirs =
    let same : depth d i ≡ depth e j = equal_depths (depth d i) (depth e j) id d.first e.first (depth_of_id d i id can mine) (depth_of_id e j id others theirs) first in
    let wide : d.drawers * i + d.place ≡ d.drawers * j + e.place = same ∙ ap (λ w. w * j + e.place) (sym drawers) in
    let place : e.place < d.drawers = subst (λ w. e.place < w) (sym drawers) others.place in
    (same_place d.drawers i j d.place e.place can.place place wide, same_row d.drawers i j d.place e.place can.place place wide)
