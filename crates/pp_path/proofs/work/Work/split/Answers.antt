use Rattle.std.proofs.Common.{◌≡◌, ◌<◌, suc, set, take, get_or, cond, map, Some, None, List, sym, ap, ◌∙◌, subst, arith, true≢false}
use Rattle.pp_sld.specs.Works as works
use Rattle.pp_path.specs.declared.levels.Level.{Level}
use Rattle.pp_path.specs.Works.{code_level, level_by, work_by, AreLevels, SplitsAt, AreLast}
use Rattle.pp_path.proofs.LevelLists.{none_split, some_split, splits_sibling, levels_take, levels_snoc, levels_set, sibling_is_level, split_off, split_stays}
use Rattle.pp_path.proofs.work.Work.split.Goals as goal

pub returns-in_default-clause-split : goal.returns-in_default-clause-split
returns-in_default-clause-split c = subst (λ w. None ≡ works.split (work_by w)) c.self.view_is (none_split c.self.inside.is_spent c.self.inside.levels.items (subst AreLast c.as_slice.ensures c.in_default.ensures.none))

pub invariant_of-result : goal.invariant_of-result
invariant_of-result c =
    let ls : List Level = c.self.inside.levels.items in
    let k = c.in-Some.place in
    let x : Level = get_or ls k (code_level 0 0) in
    let h : SplitsAt ls k = subst (λ v. SplitsAt v k) c.as_slice.ensures c.in-Some.ensures.some in
    let new = split_off ls c.deref.result.now k c.deref.ensures c.deref-2.result.now c.in_ok-levels.levels.items c.deref-2.ensures c.in_ok-levels.ensures.levels in
    (c.in_ok-levels.ensures.room, subst AreLevels (sym new) (levels_snoc (take k ls) (code_level (suc x.now) x.end) (levels_take ls k c.self.invariant.1) (sibling_is_level x (splits_sibling ls k (code_level 0 0) h))), λ e. absurd (true≢false (sym e)))

pub invariant_of-self : goal.invariant_of-self
invariant_of-self c =
    let ls : List Level = c.self.inside.levels.items in
    let k = c.in-Some.place in
    let x : Level = get_or ls k (code_level 0 0) in
    let h : SplitsAt ls k = subst (λ v. SplitsAt v k) c.as_slice.ensures c.in-Some.ensures.some in
    let stays = split_stays ls c.deref.result.now k c.deref.ensures c.put.new.levels.items c.put.ensures.items in
    let less : x.now < suc x.now = omega arith in
    (omega (arith, c.self.invariant.0, c.put.ensures.capacity), subst AreLevels (sym stays) (levels_set ls k (code_level x.now (suc x.now)) c.self.invariant.1 less), λ e. absurd (subst (λ v. SplitsAt v k) (c.self.invariant.2 e) h))

pub returns-clause-split : goal.returns-clause-split
returns-clause-split c =
    let ls : List Level = c.self.inside.levels.items in
    let k = c.in-Some.place in
    let x : Level = get_or ls k (code_level 0 0) in
    let h : SplitsAt ls k = subst (λ v. SplitsAt v k) c.as_slice.ensures c.in-Some.ensures.some in
    let new = split_off ls c.deref.result.now k c.deref.ensures c.deref-2.result.now c.in_ok-levels.levels.items c.deref-2.ensures c.in_ok-levels.ensures.levels in
    let stays = split_stays ls c.deref.result.now k c.deref.ensures c.put.new.levels.items c.put.ensures.items in
    ap (λ (v : List Level). Some (work_by (cond c.self.inside.is_spent None (Some v)), works.at (map level_by c.in_ok-levels.levels.items))) stays
    ∙ (ap (λ (v : List Level). Some (work_by (cond c.self.inside.is_spent None (Some (set ls k (code_level x.now (suc x.now))))), works.at (map level_by v))) new
    ∙ (some_split c.self.inside.is_spent ls k (code_level 0 0) c.self.invariant.2 h
    ∙ ap (λ w. works.split (work_by w)) c.self.view_is))
