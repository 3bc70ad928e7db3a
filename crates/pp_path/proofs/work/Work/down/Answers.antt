use Rattle.std.proofs.Common.{rules, ◌≡◌, ◌<◌, cond, Some, None, [], ◌∷◌, ◌++◌, sym, ap, ◌∙◌, subst, arith}
use Rattle.pp_path.specs.Works.{code_level, AreLevels}
use Rattle.pp_path.proofs.LevelLists.{levels_snoc}
use Rattle.pp_path.proofs.work.Work.down.Goals as goal

pub invariant_of-self-2 : goal.invariant_of-self-2
invariant_of-self-2 c =
    let new : c.push.new.self.items ≡ c.self.inside.levels.items ++ code_level 0 c.args.count ∷ [] = search rules in
    let some : 0 < c.args.count = omega (arith, c.requires.some) in
    (omega (arith, c.self.invariant.0, c.push.ensures.capacity), subst AreLevels (sym new) (levels_snoc c.self.inside.levels.items (code_level 0 c.args.count) c.self.invariant.1 some), λ e. absurd (c.requires.open (sym c.self.view_is ∙ ap (λ b. cond b None (Some c.self.inside.levels.items)) e)))
