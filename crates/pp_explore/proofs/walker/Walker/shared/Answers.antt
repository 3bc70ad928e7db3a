use Rattle.std.proofs.Common.{◌≡◌, ◌+◌, ◌<◌, suc, length, get_or, take, arith, subst, sym, ◌∙◌}
use Rattle.std.proofs.lemmas.List.{get_or_default}
use Rattle.pp_path.specs.Works.{code_level}
use Rattle.pp_explore.specs.Standing.{nows}
use Rattle.pp_explore.proofs.Levels.{nows-at, length-nows, take_more}
use Rattle.pp_explore.proofs.walker.Walker.shared.Goals as goal

pub loop-i-preserved : goal.loop-i-preserved
loop-i-preserved g c =
    let path = c.args.self.now.path.items in
    let i = c.loop-i.i in
    let in_path : i < length path = omega (arith, c.args.self.now.path.ok.0) in
    let in_levels : i < length c.args.levels.now = omega arith in
    let same : get_or path i 0 ≡ (get_or c.args.levels.now i (code_level 0 0)).now = omega (arith, get_or_default path i 0 c.index.result.now in_path) in
    let next : suc i ≡ i + 1 = omega arith in
    record {
      same = subst (λ n. take n path ≡ take n (nows c.args.levels.now)) next (take_more path (nows c.args.levels.now) i in_path (omega (arith, length-nows c.args.levels.now, in_levels)) (same ∙ sym (nows-at c.args.levels.now i (code_level 0 0) in_levels)) c.loop-i.invariant.same);
      within = omega (arith, in_path);
    }
