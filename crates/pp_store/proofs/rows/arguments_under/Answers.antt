use Rattle.std.proofs.Common.{◌<◌, length, map, arith, ap, ◌∙◌, subst}
use Rattle.std.proofs.lemmas.List.{take_all}
use Rattle.pp_algebra.specs.Terms.{put, variables}
use Rattle.pp_algebra.specs.Covers.{IsIn}
use Rattle.pp_algebra.specs.Numbered.{column}
use Rattle.pp_row.specs.Columns.{trees_of}
use Rattle.pp_store.proofs.Applying.{map_next, under_is, IsIn-terms}
use Rattle.pp_store.proofs.rows.arguments_under.Goals as goal

pub loop-argument-preserved : goal.loop-argument-preserved
loop-argument-preserved c =
    let l : c.loop-argument.argument-index < length c.args.arguments.now = omega arith in
    map_next (put (column (trees_of c.args.columns.now))) c.args.arguments.now c.loop-argument.terms.items c.push.new.self.items c.loop-argument.argument-index c.argument-item.result c.in_ok-substituted.field-0 l c.argument-item.is c.loop-argument.invariant
    (c.in_ok-substituted.ensures ∙ under_is c.args.columns.now c.argument-item.result (λ v i. c.requires v (IsIn-terms c.args.arguments.now c.loop-argument.argument-index c.argument-item.result v l (subst (λ t. IsIn v (variables t)) c.argument-item.is i))))
    c.in_ok-push.ensures.items

pub returns : goal.returns
returns c = c.loop-argument.invariant ∙ ap (map (put (column (trees_of c.args.columns.now)))) (take_all c.loop-argument.argument-index c.args.arguments.now (omega arith))
