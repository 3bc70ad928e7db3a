use Rattle.std.proofs.Common.{◌+◌, sym, arith}
use Rattle.std.proofs.lemmas.Result.{IfOk-weaker}
use Rattle.pp_language.specs.Fronts.{set_in, item_in}
use Rattle.pp_parse.specs.declared.items.Operator.TheVariants.{Equals, InDomain, Compares, Infers}
use Rattle.pp_parse.specs.Found.{FoundAt}
use Rattle.pp_parse.specs.Layouts.{IsMember, IsEntry}
use Rattle.pp_parse.proofs.Bounds.{seen_length}
use Rattle.pp_parse.proofs.FoundItems.{operator_room, equation_found, comparison_found, membership_found, infer_found, call_found}
use Rattle.pp_parse.proofs.items.item_at.Goals as goal

pub with_term-requires : goal.with_term-requires
with_term-requires g c =
    let r = operator_room g.qs c.args.at Equals (sym c.in-Equals.ensures) (λ e. absurd (cc (e))) in
    (c.requires.0, omega (arith, r, seen_length g.qs c.args.parts.now c.requires.0))

pub member_at-requires : goal.member_at-requires
member_at-requires g c =
    let r = operator_room g.qs c.args.at InDomain (sym c.in-InDomain.ensures) (λ e. absurd (cc (e))) in
    (c.requires.0, omega (arith, r, seen_length g.qs c.args.parts.now c.requires.0))

pub with_term-requires-in-Compares : goal.with_term-requires-in-Compares
with_term-requires-in-Compares g c =
    let r = operator_room g.qs c.args.at (Compares c.in-Compares.relation) (sym c.in-Compares.ensures) (λ e. absurd (cc (e))) in
    (c.requires.0, omega (arith, r, seen_length g.qs c.args.parts.now c.requires.0))

pub infer_at-requires : goal.infer_at-requires
infer_at-requires g c =
    let r = operator_room g.qs c.args.at Infers (sym c.in-Infers.ensures) (λ e. absurd (cc (e))) in
    (c.requires.0, (c.requires.1.0, (c.requires.1.1.0, omega (arith, r, seen_length g.qs c.args.parts.now c.requires.0))))

pub returns-in-Equals : goal.returns-in-Equals
returns-in-Equals g c = equation_found g.qs c.args.at (sym c.if-not-has_term.ensures) c.with_term.result (sym c.in-Equals.ensures) c.with_term.ensures

pub returns-in-InDomain : goal.returns-in-InDomain
returns-in-InDomain g c =
    IfOk-weaker c.member_at.result (FoundAt set_in (IsMember c.args.at) g.qs (c.args.at + 2)) (FoundAt item_in (IsEntry c.args.at) g.qs c.args.at)
    (λ r h. membership_found g.qs c.args.at (sym c.if-not-has_term.ensures) r (sym c.in-InDomain.ensures) h) c.member_at.ensures

pub returns-in-Compares : goal.returns-in-Compares
returns-in-Compares g c =
    comparison_found g.qs c.args.at (sym c.if-not-has_term.ensures) c.with_term-in-Compares.result c.in-Compares.relation (sym c.in-Compares.ensures) c.with_term-in-Compares.ensures

pub returns-in-Infers : goal.returns-in-Infers
returns-in-Infers g c = infer_found g.qs c.args.at (sym c.if-not-has_term.ensures) c.infer_at.result (sym c.in-Infers.ensures) c.infer_at.ensures

pub returns-in-Other : goal.returns-in-Other
returns-in-Other g c = call_found g.qs c.args.at (sym c.if-not-has_term.ensures) c.with_callable.result (sym c.in-Other.ensures) c.with_callable.ensures
