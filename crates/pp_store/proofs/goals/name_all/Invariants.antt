use Rattle.std.proofs.Common.{ℕ, [], ◌∷◌, take}
use Rattle.pp_algebra.specs.Covers.{IsIn}
use Rattle.pp_algebra.specs.Terms.{variables_all}
use Rattle.pp_row.specs.Columns.{trees_of}
use Rattle.pp_store.specs.Occurring.{Stands, HasMore}
use Rattle.pp_store.proofs.goals.name_all.Given as goal

abbrev pub invariant-loop-argument : goal.invariant-loop-argument
invariant-loop-argument l = record {
  more : HasMore (l.number ∷ []) l.initial.naming l.naming;
  named : (v : ℕ) → IsIn v (variables_all (trees_of (take l.argument-index l.arguments))) → Stands l.naming v l.number;
}
