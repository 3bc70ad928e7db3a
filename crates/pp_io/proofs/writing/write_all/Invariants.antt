use Rattle.std.proofs.Common.{◌≡◌, ◌≤◌, ◌++◌, [], List, ℕ, length}
use Rattle.pp_io.specs.Ends.{Took}
use Rattle.pp_io.proofs.writing.write_all.Given as goal

abbrev pub invariant-loop-rest : goal.invariant-loop-rest
invariant-loop-rest g l = record {
  count : g.K.Sink.faults l.fn.sink ≤ g.K.Sink.faults l.sink;
  split : (done : List ℕ) × (l.bytes ≡ done ++ l.rest) × Took (g.K.Sink.taken l.fn.sink) (g.K.Sink.taken l.sink) done;
  none : l.bytes ≡ [] → l.sink ≡ l.fn.sink;
}

abbrev pub decreases-loop-rest : goal.decreases-loop-rest
decreases-loop-rest g l = length l.rest
