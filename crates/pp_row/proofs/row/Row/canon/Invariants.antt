use Rattle.std.proofs.Common.{◌≡◌, map}
use Rattle.pp_algebra.specs.Terms.{put}
use Rattle.pp_row.proofs.Numbering.{names_of, placed}
use Rattle.pp_row.proofs.row.Row.canon.Given as goal

abbrev pub invariant-loop-column : goal.invariant-loop-column
invariant-loop-column l = record {
  names : l.names.keys ≡ names_of l.yielded;
  columns : l.numbered.items ≡ map (put (placed l.names.keys)) l.yielded;
}
