use Rattle.std.proofs.Common.{◌≡◌, ◌-◌, ◌++◌, length, take, drop, ap, subst, ◌∙◌}
use Rattle.pp_sld.specs.Reach.{Misses}
use Rattle.pp_explore.specs.Standing.{nows}
use Rattle.pp_explore.proofs.Standing.{map_ok, take-rest}
use Rattle.pp_explore.proofs.Levels.{take-nows-drop}
use Rattle.pp_explore.proofs.walker.Walker.go_to.Goals as goal

pub returns-clause-there : goal.returns-clause-there
returns-clause-there g c =
    let ls = c.args.levels.now in
    let n = c.shared-shared.result in
    let whole : c.back_to.new.self.path.items ++ nows (take (length ls - n) (drop n ls)) ≡ nows ls =
    ap (λ x. c.back_to.new.self.path.items ++ nows x) (take-rest n ls)
    ∙ (ap (λ x. x ++ nows (drop n ls)) (c.back_to.ensures.path ∙ c.shared-shared.ensures.same) ∙ take-nows-drop ls n) in
    map_ok c.descend_again.result (λ b f e. f e ∙ whole) c.descend_again.ensures.there

pub returns-clause-missed : goal.returns-clause-missed
returns-clause-missed g c =
    let ls = c.args.levels.now in
    let n = c.shared-shared.result in
    let whole : c.back_to.new.self.path.items ++ nows (take (length ls - n) (drop n ls)) ≡ nows ls =
    ap (λ x. c.back_to.new.self.path.items ++ nows x) (take-rest n ls)
    ∙ (ap (λ x. x ++ nows (drop n ls)) (c.back_to.ensures.path ∙ c.shared-shared.ensures.same) ∙ take-nows-drop ls n) in
    map_ok c.descend_again.result (λ b f e root s. subst (Misses (g.M.SearchMachine.clauses c.args.self.now.machine) root) whole (f e root (c.back_to.ensures.stands root s))) (rw c.back_to.ensures.clauses at c.descend_again.ensures.missed)
