use Rattle.std.proofs.Common.{◌≡◌, ◌<◌, suc, ◌∷◌, ◌++◌, length, get_or, drop, arith, ap, sym, ◌∙◌, subst, append_assoc, take}
use Rattle.pp_sld.specs.Reach.{Misses}
use Rattle.pp_path.specs.Works.{code_level}
use Rattle.pp_explore.specs.Standing.{nows}
use Rattle.pp_explore.proofs.Levels.{nows-split}
use Rattle.pp_explore.proofs.walker.Walker.descend_all.Goals as goal

pub returns-then-not-branch-clause-missed : goal.returns-then-not-branch-clause-missed
returns-then-not-branch-clause-missed g c = λ e root s.
    let ls = c.args.levels.now in
    let i = c.loop-level.level-index in
    let inside : i < length ls = omega arith in
    let later = nows (drop (suc i) ls) in
    let whole : c.loop-level.self.path.items ++ (get_or ls i (code_level 0 0)).now ∷ later ≡ c.args.self.now.path.items ++ nows ls =
    ap (λ x. x ++ (get_or ls i (code_level 0 0)).now ∷ later) c.loop-level.invariant.path
    ∙ (append_assoc c.args.self.now.path.items (nows (take i ls)) ((get_or ls i (code_level 0 0)).now ∷ later)
    ∙ ap (λ x. c.args.self.now.path.items ++ x) (sym (nows-split ls i (code_level 0 0) inside))) in
    subst (Misses (g.M.SearchMachine.clauses c.args.self.now.machine) root) whole
    ((rw c.loop-level.invariant.clauses at c.in_ok-descend.ensures.missed) c.if-not-branch.true later root (c.loop-level.invariant.stands root s))
