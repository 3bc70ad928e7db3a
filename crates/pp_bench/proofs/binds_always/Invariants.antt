use Rattle.std.proofs.Common.{◌<◌, length}
use Rattle.pp_bench.proofs.binds_always.Given as goal

abbrev pub invariant-loop : goal.invariant-loop
invariant-loop l = l.mark < length l.bindings
