use Rattle.std.proofs.Common.{◌≡◌, ◌+◌, length, rules}
use Rattle.pp_unify.proofs.Wider.{onward_through, entered_from, never_from}
use Rattle.pp_unify.proofs.join.enter.Goals as goal

pub returns-in_err-add_up_to-clause-onward : goal.returns-in_err-add_up_to-clause-onward
returns-in_err-add_up_to-clause-onward c = onward_through c.args.state.now c.unify_lists.new.state c.add_up_to.new.state c.unify_lists.ensures.onward c.add_up_to.ensures.onward

pub returns-in_ok-add_up_to-clause-onward : goal.returns-in_ok-add_up_to-clause-onward
returns-in_ok-add_up_to-clause-onward c = onward_through c.args.state.now c.unify_lists.new.state c.add_up_to.new.state c.unify_lists.ensures.onward c.add_up_to.ensures.onward

pub returns-in_ok-add_up_to-clause-entered : goal.returns-in_ok-add_up_to-clause-entered
returns-in_ok-add_up_to-clause-entered c =
    let a = c.args.state.now in
    let b : c.in_ok-base.base ≡ length a.slots.items = search rules in
    let n : c.in_ok-end.end ≡ length a.slots.items + c.args.amount = search rules in
    entered_from a c.unify_lists.new.state c.add_up_to.new.state c.args.first c.args.goal.now c.args.head.now c.in_ok-base.base c.args.amount c.in_ok-end.end c.in_ok-equal.equal b n c.if-equal.true c.requires.below c.in_ok-equal.ensures.joined c.in_ok-add_up_to.ensures.raised

pub returns-else-equal-clause-entered : goal.returns-else-equal-clause-entered
returns-else-equal-clause-entered c =
    let a = c.args.state.now in
    let b : c.in_ok-base.base ≡ length a.slots.items = search rules in
    never_from a c.unify_lists.new.state c.args.first c.args.goal.now c.args.head.now c.in_ok-base.base c.args.amount c.in_ok-equal.equal b c.if-equal.false c.in_ok-equal.ensures.joined
