use Rattle.std.proofs.Common.{◌++◌, take, arith}
use Rattle.pp_io.proofs.Pieces.{took_more, split_more, no_rest}
use Rattle.pp_io.proofs.writing.write_all.Goals as goal

pub loop-rest-preserved : goal.loop-rest-preserved
loop-rest-preserved g c = let split = c.loop-rest.invariant.split in record {
  count = omega arith;
  split = (
    split.0 ++ take c.in-Ok.n c.loop-rest.rest.now,
    split_more _ split.0 c.loop-rest.rest.now _ split.1 c.in-Ok.ensures.within,
    took_more _ _ _ _ _ split.2 c.in-Ok.ensures.took,
  );
  none = λ empty. absurd (no_rest _ split.0 c.loop-rest.rest.now empty split.1 c.loop-rest-test.ensures);
}
