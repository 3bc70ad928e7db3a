use Rattle.std.proofs.Common.{◌≡◌, map, take}
use Rattle.pp_algebra.specs.Terms.{put}
use Rattle.pp_row.proofs.Numbering.{placed, names_of}
use Rattle.pp_heap.specs.Stores.{solution}
use Rattle.pp_unify.proofs.bindings.Bindings.resolve_row.Given as goal

abbrev pub invariant-loop-column : goal.invariant-loop-column
invariant-loop-column l = record {
  names : l.numbers.keys ≡ names_of (map (put (solution l.self-inside.state)) (take l.column-index l.columns));
  columns : l.numbered.items ≡ map (put (placed l.numbers.keys)) (map (put (solution l.self-inside.state)) (take l.column-index l.columns));
}
