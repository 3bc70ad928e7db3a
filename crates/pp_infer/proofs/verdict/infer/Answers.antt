use Rattle.std.proofs.Common.{◌∙◌}
use Rattle.pp_term.specs.Meanings.{mode_of}
use Rattle.pp_find.specs.Meanings.{finding_by}
use Rattle.pp_explore.proofs.Standing.{map_ok}
use Rattle.pp_infer.proofs.Found.{all_under, is_verdict}
use Rattle.pp_infer.proofs.verdict.infer.Goals as goal

pub gather-requires-clause-under : goal.gather-requires-clause-under
gather-requires-clause-under g c =
    rw c.new-gathered.ensures.call (all_under (g.M.SearchMachine.clauses c.args.machine.now) (g.M.SearchMachine.place c.args.machine.now) c.args.call c.requires.root)

pub returns-clause-verdict : goal.returns-clause-verdict
returns-clause-verdict g c =
    map_ok c.verdict.result
    (λ v e shape face depth at called. is_verdict (g.M.SearchMachine.clauses c.args.machine.now) (g.M.SearchMachine.place c.args.machine.now) c.args.call (mode_of c.args.mode) shape face depth at called (finding_by c.gather.new.gathered.collector.finding) v
    (rw (c.in_ok-gather.ensures.call ∙ c.new-gathered.ensures.call) at e) (rw c.new-gathered.ensures.mode at (rw c.new-gathered.ensures.call at c.in_ok-gather.ensures.finding)))
    c.verdict.ensures
