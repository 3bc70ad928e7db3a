use Rattle.std.proofs.Common.{◌≡◌, Some, length, slice_get, refl, subst, ap, sym, ◌∙◌, arith}
use Rattle.std.specs.Option.{option_map}
use Rattle.pp_algebra.specs.Members.{members, IsInteger}
use Rattle.pp_domain.specs.Sets.{set_of}
use Rattle.pp_domain.proofs.Ascending.{len_is}
use Rattle.pp_domain.proofs.MembersListed.{members-set_of}
use Rattle.pp_heap.proofs.Words.{word}
use Rattle.pp_row.specs.Reading.{forest}
use Rattle.pp_unify.specs.States.{present}
use Rattle.pp_goal.proofs.Splitting.{values_are, value_is_integer}
use Rattle.pp_goal.proofs.split.split_value.Goals as goal

pub unreachable-requires-in_default-nth : goal.unreachable-requires-in_default-nth
unreachable-requires-in_default-nth c =
    let d = c.in-Some.domain.now in
    let whole = c.intervals-whole.ensures.domain in
    let v = values_are (present c.args.bindings.now) c.args.first (forest c.args.goal.now.arguments.now) (set_of d) (omega (arith, c.requires.one)) (sym c.domain_at.ensures ∙ ap (option_map (λ x. set_of x.now)) c.in-Some.is) in
    omega (arith, c.requires.place, ap length v, ap length (members-set_of d whole), len_is d whole, c.in_default-nth.ensures.none.0 refl)

pub returns-clause-value : goal.returns-clause-value
returns-clause-value c =
    let d = c.in-Some.domain.now in
    let whole = c.intervals-whole.ensures.domain in
    let v = values_are (present c.args.bindings.now) c.args.first (forest c.args.goal.now.arguments.now) (set_of d) (omega (arith, c.requires.one)) (sym c.domain_at.ensures ∙ ap (option_map (λ x. set_of x.now)) c.in-Some.is) in
    let at : slice_get (members (set_of d)) c.args.place ≡ Some c.in-Some-nth.value = ap (λ ns. slice_get ns c.args.place) (members-set_of d whole) ∙ sym c.nth.ensures.listed ∙ c.in-Some-nth.is in
    ap (λ ns. slice_get ns c.args.place) v ∙ at ∙ ap Some (sym (word c.in-Some-nth.value (value_is_integer (set_of d) c.args.place c.in-Some-nth.value at)))

pub returns-clause-integer : goal.returns-clause-integer
returns-clause-integer c =
    let d = c.in-Some.domain.now in
    let whole = c.intervals-whole.ensures.domain in
    let at : slice_get (members (set_of d)) c.args.place ≡ Some c.in-Some-nth.value = ap (λ ns. slice_get ns c.args.place) (members-set_of d whole) ∙ sym c.nth.ensures.listed ∙ c.in-Some-nth.is in
    let n = value_is_integer (set_of d) c.args.place c.in-Some-nth.value at in
    subst IsInteger (sym (word c.in-Some-nth.value n)) n
