use Rattle.std.proofs.Common.{◌+◌, cond, map, Some, None, List, sym, ap, ◌∙◌, subst, arith, true≢false}
use Rattle.pp_sld.specs.Works as works
use Rattle.pp_path.specs.declared.levels.Level.{Level}
use Rattle.pp_path.specs.Works.{code_level, level_by, work_by, AreLevels, skipped, HasMore}
use Rattle.pp_path.proofs.LevelLists.{skipped_last, levels_with_more, moved_last, levels_front, levels_snoc}
use Rattle.pp_path.proofs.work.Work.skip.Goals as goal

pub invariant_of-self : goal.invariant_of-self
invariant_of-self c =
    let ls : List Level = c.self.inside.levels.items in
    let more = levels_with_more c.self.inside.is_spent ls c.args.count (subst (λ w. HasMore w c.args.count) (sym c.self.view_is) c.requires) in
    let front : List Level = more.1 in
    let l : Level = more.2 in
    let new = moved_last ls c.deref.result.now front c.put.new.levels.items l c.args.count c.len-place.result c.deref.ensures more.3 c.len-place.ensures.value c.put.ensures.items in
    (omega (arith, c.self.invariant.0, c.put.ensures.capacity), subst AreLevels (sym new) (levels_snoc front (code_level (l.now + c.args.count) l.end) (levels_front front l (subst AreLevels more.3 c.self.invariant.1)) more.4), λ e. absurd (true≢false (sym e ∙ more.0)))

pub returns : goal.returns
returns c =
    let ls : List Level = c.self.inside.levels.items in
    let more = levels_with_more c.self.inside.is_spent ls c.args.count (subst (λ w. HasMore w c.args.count) (sym c.self.view_is) c.requires) in
    let front : List Level = more.1 in
    let l : Level = more.2 in
    let new = moved_last ls c.deref.result.now front c.put.new.levels.items l c.args.count c.len-place.result c.deref.ensures more.3 c.len-place.ensures.value c.put.ensures.items in
    ap (λ b. work_by (cond b None (Some c.put.new.levels.items))) more.0
    ∙ (ap (λ (v : List Level). works.at (map level_by v)) new
    ∙ (skipped_last c.args.count front l more.4
    ∙ (ap (λ (v : List Level). skipped c.args.count (works.at (map level_by v))) (sym more.3)
    ∙ (ap (λ b. skipped c.args.count (work_by (cond b None (Some ls)))) (sym more.0)
    ∙ ap (λ w. skipped c.args.count (work_by w)) c.self.view_is))))
