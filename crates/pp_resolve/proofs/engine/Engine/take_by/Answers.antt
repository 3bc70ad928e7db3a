use Rattle.std.proofs.Common.{rules, ◌≡◌, sym, subst}
use Rattle.pp_goal.specs.declared.acts.Act.TheVariants.{Call}
use Rattle.pp_term.specs.Meanings.{program}
use Rattle.pp_walk.specs.Moves.{HasChoice}
use Rattle.pp_resolve.specs.Engines.{place_of, IsMet}
use Rattle.pp_resolve.specs.Events.{selected_as}
use Rattle.pp_resolve.proofs.Choosing.{no_choice, no_call}
use Rattle.pp_resolve.proofs.engine.Engine.take_by.Goals as goal

pub call-requires-clause-choice : goal.call-requires-clause-choice
call-requires-clause-choice c =
    let same : c.in_ok-place-in-Call.place ≡ c.args.place = search rules in
    subst (λ k. HasChoice (program c.args.self.now.clauses.now) (place_of c.args.self.now).here k) (sym same) c.requires.choice

pub returns-in_default-at-clause-took : goal.returns-in_default-at-clause-took
returns-in_default-at-clause-took c =
    let e = c.args.self.now in
    let met = subst (λ at. IsMet e (selected_as at (Call c.in-Call.predicate))) c.in_default-at.is (subst (λ a. IsMet e (selected_as c.args.selected.at a)) c.in-Call.is c.requires.met) in
    absurd (no_call e c.in_default-at.field-0 c.in-Call.predicate c.requires.good met)

pub call-requires-clause-met : goal.call-requires-clause-met
call-requires-clause-met c =
    let e = c.args.self.now in
    subst (λ at. IsMet e (selected_as at (Call c.in-Call.predicate))) c.in-None.is (subst (λ a. IsMet e (selected_as c.args.selected.at a)) c.in-Call.is c.requires.met)

pub returns-in_default : goal.returns-in_default
returns-in_default c = absurd (no_choice c.args.self.now c.args.place c.requires.good c.args.selected.at c.args.selected.act c.requires.met c.requires.choice c.in_default.not-Call c.in_default.not-Split)
