use Rattle.pp_algebra.specs.Terms.{variable}
use Rattle.pp_heap.specs.Values.{value_term}
use Rattle.pp_unify.proofs.Meeting.{met_of_answer, met_turned}
use Rattle.pp_unify.proofs.unify.equate.Goals as goal

pub returns-in_ok-assign-in_default-other : goal.returns-in_ok-assign-in_default-other
returns-in_ok-assign-in_default-other c =
    let a = c.args.state.now in
    record {
      later = c.in_ok-assign-in_default-other.ensures.later;
      met = rw (c.in-Variable.is, c.outcome-in_default-other.ensures) (met_of_answer a c.assign.new.self (variable c.in-Variable.left) (value_term a.heap.items c.args.other) c.in_ok-assign-in_default-other.field-0 c.in_ok-assign-in_default-other.ensures.answer);
    }

pub returns-in_ok-assign-in-Variable-other-2 : goal.returns-in_ok-assign-in-Variable-other-2
returns-in_ok-assign-in-Variable-other-2 c =
    let a = c.args.state.now in
    record {
      later = c.in_ok-assign-in-Variable-other-2.ensures.later;
      met = rw (c.in-Variable-other-2.is, c.outcome-in-Variable-other-2.ensures) (met_turned a c.assign-in-Variable-other-2.new.self (variable c.in-Variable-other-2.right) (value_term a.heap.items c.args.one) c.in_ok-assign-in-Variable-other-2.field-0 c.in_ok-assign-in-Variable-other-2.ensures.answer);
    }
