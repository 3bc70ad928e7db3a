use Rattle.std.proofs.Common.{◌≡◌, ◌++◌, ◌∷◌, [], rules, Some, sym, ap, ◌∙◌, subst}
use Rattle.pp_sld.specs.Findings.{join_option}
use Rattle.pp_find.specs.Common.{common, AreUnder}
use Rattle.pp_find.proofs.Commons.{rest-under, tail-under, rest-stays, rest-still, common-push, under-push}
use Rattle.pp_find.proofs.levels.add_row.Goals as goal

pub join_rows-requires : goal.join_rows-requires
join_rows-requires c = record { under = rest-under c.args.row c.args.rows.now.items c.requires.under }

pub returns-in_err-join_rows-clause-under : goal.returns-in_err-join_rows-clause-under
returns-in_err-join_rows-clause-under c = λ call x. c.join_rows.ensures.under call (tail-under call c.args.row c.args.rows.now.items x)

pub returns-in_err-push-clause-under : goal.returns-in_err-push-clause-under
returns-in_err-push-clause-under c =
    let e : c.push.new.self.items ≡ c.join_rows.new.rows.items = search rules in
    λ call x. subst (AreUnder call) (sym e) (c.join_rows.ensures.under call (tail-under call c.args.row c.args.rows.now.items x))

pub returns-clause-added : goal.returns-clause-added
returns-clause-added c =
    let e : c.push.new.self.items ≡ c.join_rows.new.rows.items ++ c.args.row ∷ [] = search rules in
    ap common e ∙ common-push c.join_rows.new.rows.items c.args.row (rest-still c.args.row c.args.rows.now.items c.join_rows.new.rows.items c.join_rows.ensures.under c.requires.under) ∙ ap (λ o. join_option o (Some c.args.row)) c.join_rows.ensures.same

pub returns-clause-under : goal.returns-clause-under
returns-clause-under c =
    let e : c.push.new.self.items ≡ c.join_rows.new.rows.items ++ c.args.row ∷ [] = search rules in
    λ call x. subst (AreUnder call) (sym e) (under-push call c.join_rows.new.rows.items c.args.row (rest-stays call c.args.row c.args.rows.now.items c.join_rows.new.rows.items c.join_rows.ensures.under x))
