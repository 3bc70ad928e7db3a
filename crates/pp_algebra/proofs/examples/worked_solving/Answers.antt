use Rattle.pp_algebra.proofs.WorkedSolving.{same_sides, sides_differ, any_is_replaced, ranged_is_replaced, ranged_are_merged, members_hold, variables_are_narrowed}
use Rattle.pp_algebra.proofs.examples.worked_solving.Goals as goal

pub returns-clause-same_sides : goal.returns-clause-same_sides
returns-clause-same_sides c = same_sides

pub returns-clause-sides_differ : goal.returns-clause-sides_differ
returns-clause-sides_differ c = sides_differ

pub returns-clause-any_is_replaced : goal.returns-clause-any_is_replaced
returns-clause-any_is_replaced c = any_is_replaced

pub returns-clause-ranged_is_replaced : goal.returns-clause-ranged_is_replaced
returns-clause-ranged_is_replaced c = ranged_is_replaced

pub returns-clause-ranged_are_merged : goal.returns-clause-ranged_are_merged
returns-clause-ranged_are_merged c = ranged_are_merged

pub returns-clause-members_hold : goal.returns-clause-members_hold
returns-clause-members_hold c = members_hold

pub returns-clause-variables_are_narrowed : goal.returns-clause-variables_are_narrowed
returns-clause-variables_are_narrowed c = variables_are_narrowed
