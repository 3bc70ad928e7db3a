use Rattle.std.proofs.Common.{◌≡◌, map, take}
use Rattle.pp_algebra.specs.Terms.{put}
use Rattle.pp_algebra.specs.Numbered.{column}
use Rattle.pp_row.specs.Columns.{trees_of}
use Rattle.pp_store.proofs.rows.arguments_under.Given as goal

abbrev pub invariant-loop-argument : goal.invariant-loop-argument
invariant-loop-argument l = l.terms.items ≡ map (put (column (trees_of l.columns))) (take l.argument-index l.arguments)
