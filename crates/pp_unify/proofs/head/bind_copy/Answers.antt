use Rattle.std.proofs.Common.{◌-◌, ◌^◌, drop, take, arith}
use Rattle.std.proofs.lemmas.Result.{IfOk-weaker}
use Rattle.pp_algebra.specs.Terms.{variable}
use Rattle.pp_heap.specs.Values.{term_at}
use Rattle.pp_heap.specs.Outcomes.{IsAnswer}
use Rattle.pp_unify.specs.Heads.{HasStepped}
use Rattle.pp_unify.proofs.Copied.{copy_apart, copy_stepped}
use Rattle.pp_unify.proofs.HeadSteps.{cut_forest, cut_below, shifted_below}
use Rattle.pp_unify.proofs.Wider.{onward_through, onward_grown, onward_later}
use Rattle.pp_unify.proofs.head.bind_copy.Goals as goal

pub survey-amount-requires : goal.survey-amount-requires
survey-amount-requires c = record { fits = cut_below c.args.cells.now c.args.at c.args.end c.args.first c.requires.head c.requires.within c.requires.piece (2 ^ 32) c.requires.fits }

pub grow-requires-clause-forest : goal.grow-requires-clause-forest
grow-requires-clause-forest c = cut_forest c.args.cells.now c.args.at c.args.end c.args.first c.requires.head c.requires.within c.requires.piece

pub grow-requires-clause-variables : goal.grow-requires-clause-variables
grow-requires-clause-variables c = λ p v e.
    let l = shifted_below c.survey-amount.result.0 c.args.first (take (c.args.end - c.args.at) (drop c.args.at c.args.cells.now)) c.survey-amount.ensures.below p v e in
    let r = c.in_ok-add_up_to.ensures.raised.reached in
    omega (arith, l, r)

pub returns-in_err-place-clause-onward : goal.returns-in_err-place-clause-onward
returns-in_err-place-clause-onward c = onward_through c.args.state.now c.add_up_to.new.state c.grow.new.self c.add_up_to.ensures.onward (onward_grown c.add_up_to.new.state c.grow.new.self c.grow.ensures.grown)

pub assign_apart-requires-clause-apart : goal.assign_apart-requires-clause-apart
assign_apart-requires-clause-apart c =
    let e = c.in_ok-place.ensures in
    copy_apart c.args.state.now c.add_up_to.new.state c.grow.new.self c.survey-amount.result.0 c.args.free c.in_ok-place.place c.args.first c.args.cells.now c.args.at c.args.end c.requires.head c.requires.within c.requires.piece
    c.add_up_to.ensures.onward c.in_ok-add_up_to.ensures.raised c.grow.ensures.grown e.heap e.at c.requires.unbound (c.survey-amount.ensures.ground c.if-apart.true)

pub returns-then-apart-clause-onward : goal.returns-then-apart-clause-onward
returns-then-apart-clause-onward c =
    let a = c.args.state.now in
    let m = c.add_up_to.new.state in
    let g = c.grow.new.self in
    let d = c.assign_apart.new.self in
    onward_through a m d c.add_up_to.ensures.onward (onward_through m g d (onward_grown m g c.grow.ensures.grown) (onward_later g d c.assign_apart.ensures.later))

pub returns-then-apart-clause-stepped : goal.returns-then-apart-clause-stepped
returns-then-apart-clause-stepped c =
    let a = c.args.state.now in
    let g = c.grow.new.self in
    let d = c.assign_apart.new.self in
    let x = c.args.free in
    let n = c.args.first in
    let cells = c.args.cells.now in
    let at = c.args.at in
    let p = c.in_ok-place.place in
    let e = c.in_ok-place.ensures in
    IfOk-weaker c.assign_apart.result (IsAnswer g d (variable x) (term_at g.heap.items p)) (HasStepped a d (variable x) n cells at)
    (copy_stepped a c.add_up_to.new.state g c.survey-amount.result.0 x p n cells at c.args.end c.requires.head c.requires.within c.requires.piece
    c.add_up_to.ensures.onward c.in_ok-add_up_to.ensures.raised c.grow.ensures.grown e.heap e.at c.survey-amount.ensures.least d c.assign_apart.ensures.later)
    c.assign_apart.ensures.answer

pub returns-else-apart-clause-onward : goal.returns-else-apart-clause-onward
returns-else-apart-clause-onward c =
    let a = c.args.state.now in
    let m = c.add_up_to.new.state in
    let g = c.grow.new.self in
    let d = c.assign_compound.new.self in
    onward_through a m d c.add_up_to.ensures.onward (onward_through m g d (onward_grown m g c.grow.ensures.grown) (onward_later g d c.assign_compound.ensures.later))

pub returns-else-apart-clause-stepped : goal.returns-else-apart-clause-stepped
returns-else-apart-clause-stepped c =
    let a = c.args.state.now in
    let g = c.grow.new.self in
    let d = c.assign_compound.new.self in
    let x = c.args.free in
    let n = c.args.first in
    let cells = c.args.cells.now in
    let at = c.args.at in
    let p = c.in_ok-place.place in
    let e = c.in_ok-place.ensures in
    IfOk-weaker c.assign_compound.result (IsAnswer g d (variable x) (term_at g.heap.items p)) (HasStepped a d (variable x) n cells at)
    (copy_stepped a c.add_up_to.new.state g c.survey-amount.result.0 x p n cells at c.args.end c.requires.head c.requires.within c.requires.piece
    c.add_up_to.ensures.onward c.in_ok-add_up_to.ensures.raised c.grow.ensures.grown e.heap e.at c.survey-amount.ensures.least d c.assign_compound.ensures.later)
    c.assign_compound.ensures.answer
