use Rattle.std.proofs.Common.{false, sym, ◌∙◌, subst}
use Rattle.pp_term.specs.Meanings.{program}
use Rattle.pp_walk.specs.Moves.{HasChoice, IsDeadAt}
use Rattle.pp_resolve.specs.Engines.{place_of}
use Rattle.pp_resolve.specs.Events.{Took}
use Rattle.pp_resolve.proofs.Choosing.{back_again}
use Rattle.pp_resolve.proofs.engine.Engine.choose.Goals as goal

pub take-requires-clause-choice : goal.take-requires-clause-choice
take-requires-clause-choice g c =
    let old = c.args.self.now in
    let new = c.save.new.self in
    subst (λ x. HasChoice (program new.clauses.now) x c.args.place) (sym c.save.ensures.here) (subst (λ cs. HasChoice (program cs) (place_of old).here c.args.place) (sym c.save.ensures.same.clauses) c.requires.choice)

pub returns-in-Ok-false-clause-chose : goal.returns-in-Ok-false-clause-chose
returns-in-Ok-false-clause-chose g c =
    let old = c.args.self.now in
    let mid = c.save.new.self in
    let new = c.take.new.self in
    let took : Took mid c.args.place false new = subst (λ b. Took mid c.args.place b new) c.in-Ok-false.field-0-test c.in-Ok-false.ensures.took in
    let dead = subst (λ cs. IsDeadAt (program cs) (place_of old).here c.args.place) c.save.ensures.same.clauses (subst (λ x. IsDeadAt (program mid.clauses.now) x c.args.place) c.save.ensures.here took.0) in
    (dead, back_again (place_of new) (place_of old) (place_of c.back.new.self) c.back.result (c.take.ensures.above ∙ c.in_ok-save.ensures.saved) c.back.ensures.none c.back.ensures.back)
