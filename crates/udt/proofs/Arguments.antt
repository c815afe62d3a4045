-- What holds of any arguments.
use Rattle.std.specs.Prelude.{Result, Ok, Err, IfOk, OnErr}

-- what holds of each list of arguments, holds where there is one
pub each_ok : {T E : Type 0} (given : Result T E) (P : T → Type 0) → ((args : T) → P args) → IfOk given P
each_ok (Ok args) P all = all args
each_ok (Err why) P all = tt

-- what holds, holds where there is none
pub each_err : {T E : Type 0} (given : Result T E) (P : Type 0) → P → OnErr given P
each_err (Ok args) P always = tt
each_err (Err why) P always = always
