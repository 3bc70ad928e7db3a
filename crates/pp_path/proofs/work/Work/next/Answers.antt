use Rattle.std.proofs.Common.{rules, ◌≡◌, ◌+◌, true, false, suc, cond, map, length, Some, None, List, [], ◌∷◌, ◌++◌, sym, ap, ◌∙◌, subst, arith}
use Rattle.pp_sld.specs.Works as works
use Rattle.pp_path.specs.declared.levels.Level.{Level}
use Rattle.pp_path.specs.Works.{code_level, level_by, work_by, has_sibling, AreLevels}
use Rattle.pp_path.proofs.LevelLists.{next_last, levels_front, levels_snoc, sibling_is_level, some_next, next_of, no_snoc, length_snoc}
use Rattle.pp_path.proofs.work.Work.next.Goals as goal

pub invariant_of-self : goal.invariant_of-self
invariant_of-self c =
    let new : List Level = c.pop.new.self.items in
    let x : Level = c.in-Some.last in
    let all : c.loop.self-inside.levels.items ≡ new ++ x ∷ [] = search rules in
    let sibling : has_sibling x ≡ true = sym c.has_sibling.ensures ∙ c.if-has_sibling.true in
    let one : x.now + 1 ≡ suc x.now = omega arith in
    let put : c.push_reserved.new.self.items ≡ new ++ code_level (suc x.now) x.end ∷ [] = c.push_reserved.ensures.items ∙ ap (λ n. new ++ code_level n x.end ∷ []) one in
    let front : AreLevels new = levels_front new x (subst AreLevels all c.loop.invariant.2) in
    (omega (arith, c.loop.invariant.0, c.pop.ensures.capacity, c.push_reserved.ensures.capacity), subst AreLevels (sym put) (levels_snoc new (code_level (suc x.now) x.end) front (sibling_is_level x sibling)), λ e. absurd (no_snoc new x (sym all ∙ c.loop.invariant.5 e)))

pub returns-then-has_sibling-clause-next : goal.returns-then-has_sibling-clause-next
returns-then-has_sibling-clause-next c =
    let new : List Level = c.pop.new.self.items in
    let x : Level = c.in-Some.last in
    let all : c.loop.self-inside.levels.items ≡ new ++ x ∷ [] = search rules in
    let sibling : has_sibling x ≡ true = sym c.has_sibling.ensures ∙ c.if-has_sibling.true in
    let one : x.now + 1 ≡ suc x.now = omega arith in
    let put : c.push_reserved.new.self.items ≡ new ++ code_level (suc x.now) x.end ∷ [] = c.push_reserved.ensures.items ∙ ap (λ n. new ++ code_level n x.end ∷ []) one in
    let spent : c.loop.self-inside.is_spent ≡ true → new ++ x ∷ [] ≡ [] = λ e. sym all ∙ c.loop.invariant.5 e in
    ap (λ (v : List Level). work_by (cond c.loop.self-inside.is_spent None (Some v))) put
    ∙ (some_next c.loop.self-inside.is_spent new x spent sibling
    ∙ (ap (λ (v : List Level). works.work_of (works.next_levels (map level_by v))) (sym all)
    ∙ (ap works.work_of c.loop.invariant.3
    ∙ (sym (next_of c.self.inside.is_spent c.self.inside.levels.items c.self.invariant.2)
    ∙ ap (λ w. works.next (work_by w)) c.self.view_is))))

pub loop-preserved : goal.loop-preserved
loop-preserved c =
    let new : List Level = c.pop.new.self.items in
    let x : Level = c.in-Some.last in
    let all : c.loop.self-inside.levels.items ≡ new ++ x ∷ [] = search rules in
    let last : has_sibling x ≡ false = sym c.has_sibling.ensures ∙ c.if-has_sibling.false in
    let gone : works.next_levels (map level_by new) ≡ works.next_levels (map level_by c.self.inside.levels.items) = sym (next_last new x false last) ∙ (ap (λ (v : List Level). works.next_levels (map level_by v)) (sym all) ∙ c.loop.invariant.3) in
    let many : length c.loop.self-inside.levels.items ≡ suc (length new) = ap length all ∙ length_snoc new x in (
      omega (arith, c.loop.invariant.0, c.pop.ensures.capacity),
      omega (arith, c.loop.invariant.1, c.pop.ensures.capacity, many),
      levels_front new x (subst AreLevels all c.loop.invariant.2),
      gone,
      c.loop.invariant.4,
      (λ e. absurd (no_snoc new x (sym all ∙ c.loop.invariant.5 e))),
      omega (arith, c.loop.invariant.6, many),
    )
