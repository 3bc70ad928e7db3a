use Rattle.std.proofs.Common.{sym, ◌∙◌}
use Rattle.pp_path.specs.Works.{code_level}
use Rattle.pp_path.proofs.LevelLists.{found, gone_on}
use Rattle.pp_path.proofs.levels.first_with_sibling.Goals as goal

pub returns-then-has_sibling-clause-some : goal.returns-then-has_sibling-clause-some
returns-then-has_sibling-clause-some c = found c.args.levels.now c.loop-i.i (code_level 0 0) c.loop-i-test.true (sym c.has_sibling.ensures ∙ c.if-has_sibling.true) c.loop-i.invariant

pub loop-i-preserved : goal.loop-i-preserved
loop-i-preserved c = gone_on c.args.levels.now c.loop-i.i (code_level 0 0) c.loop-i-test.true (sym c.has_sibling.ensures ∙ c.if-has_sibling.false) c.loop-i.invariant
