use Rattle.std.proofs.Common.{refl, arith}
use Rattle.std.proofs.lemmas.Slice.{take-put_mid, drop-put_mid}
use Rattle.udt_outside.proofs.writing.put.Goals as goal

-- the part that was written over lies between what stands before and after it
pub returns : goal.returns
returns c =
    rw c.copy_from_slice.ensures.after (record {
      ends = refl;
      front = take-put_mid c.args.at _ c.args.into.now c.args.text.now _ refl (omega arith);
      rest = drop-put_mid c.args.at _ c.args.into.now c.args.text.now _ (omega arith) (omega arith) (omega arith);
    })
