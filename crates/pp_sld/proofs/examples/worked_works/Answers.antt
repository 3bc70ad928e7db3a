use Rattle.pp_sld.proofs.WorkedSearches.{leaves_in_order, paths_skip_built_ins, work_goes_on, work_splits, works_in_order, findings_settle, walk_stops}
use Rattle.pp_sld.proofs.examples.worked_works.Goals as goal

pub returns-clause-leaves_in_order : goal.returns-clause-leaves_in_order
returns-clause-leaves_in_order c = leaves_in_order

pub returns-clause-paths_skip_built_ins : goal.returns-clause-paths_skip_built_ins
returns-clause-paths_skip_built_ins c = paths_skip_built_ins

pub returns-clause-work_goes_on : goal.returns-clause-work_goes_on
returns-clause-work_goes_on c = work_goes_on

pub returns-clause-work_splits : goal.returns-clause-work_splits
returns-clause-work_splits c = work_splits

pub returns-clause-works_in_order : goal.returns-clause-works_in_order
returns-clause-works_in_order c = works_in_order

pub returns-clause-findings_settle : goal.returns-clause-findings_settle
returns-clause-findings_settle c = findings_settle

pub returns-clause-walk_stops : goal.returns-clause-walk_stops
returns-clause-walk_stops c = walk_stops
