use Rattle.udt_net.proofs.tests.close_both.Goals as goal

-- the other ends are of the network still
pub close-requires-2-clause-ours_in : goal.close-requires-2-clause-ours_in
close-requires-2-clause-ours_in c = c.close.ensures.ins_kept _ c.requires.two.0

pub close-requires-2-clause-ours_out : goal.close-requires-2-clause-ours_out
close-requires-2-clause-ours_out c = c.close.ensures.outs_kept _ c.requires.two.1
