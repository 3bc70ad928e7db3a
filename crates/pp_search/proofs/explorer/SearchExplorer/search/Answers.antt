use Rattle.pp_explore.proofs.Standing.{map_ok}
use Rattle.pp_search.proofs.Fitting.{later_tests}
use Rattle.pp_search.proofs.explorer.SearchExplorer.search.Goals as goal

pub returns-clause-later : goal.returns-clause-later
returns-clause-later c = map_ok c.search_open.result (λ f h up. later_tests f.rest c.args.task.now (h up)) c.search_open.ensures.later
