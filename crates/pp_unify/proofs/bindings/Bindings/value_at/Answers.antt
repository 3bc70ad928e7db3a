use Rattle.std.proofs.Common.{sym, ap, ◌∙◌}
use Rattle.pp_domain.specs.Sets.{set_of}
use Rattle.pp_algebra.specs.Givens.{integer, given}
use Rattle.pp_unify.specs.States.{present}
use Rattle.pp_heap.proofs.Words.{word}
use Rattle.pp_algebra.specs.Numbered.{counted_from}
use Rattle.pp_heap.specs.Values.{term_at}
use Rattle.pp_unify.proofs.Verdicts.{row_present}
use Rattle.pp_unify.proofs.Decided.{over_head, over_term}
use Rattle.pp_unify.proofs.Givens.{top_int, top_variable, top_other, place_int, place_other, place_given, given_some, given_none}
use Rattle.pp_unify.proofs.bindings.Bindings.value_at.Goals as goal

pub top-requires-clause-head : goal.top-requires-clause-head
top-requires-clause-head c = over_head c.self.inside.state c.args.self.now c.args.first c.args.cells.now c.self.view_is c.requires.whole c.requires.over

pub returns-in-Int-clause-given : goal.returns-in-Int-clause-given
returns-in-Int-clause-given c =
    let s = c.self.inside.state in
    let t = counted_from c.args.first (term_at c.args.cells.now c.args.at) in
    let among = over_term s c.args.self.now c.args.first c.args.cells.now c.args.at c.self.view_is c.requires.whole c.requires.within c.requires.over in
    let n = top_int s.slots.items _ c.in-Int.value c.in-Int.ensures in
    ap integer (word c.in-Int.value n.1) ∙ sym (ap (given (present c.args.self.now).domains) (place_int s c.args.self.now t c.self.view_is among c.in-Int.value n.0))

pub returns-then-is_some-clause-given : goal.returns-then-is_some-clause-given
returns-then-is_some-clause-given c =
    let s = c.self.inside.state in
    let t = counted_from c.args.first (term_at c.args.cells.now c.args.at) in
    let among = over_term s c.args.self.now c.args.first c.args.cells.now c.args.at c.self.view_is c.requires.whole c.requires.within c.requires.over in
    let v = top_variable s.slots.items _ c.in-Variable.free c.in-Variable.ensures in
    given_some (λ d. set_of d.now) c.domain_of.result _ c.domain_of.ensures c.if-is_some.ensures
    ∙ sym (place_given s c.args.self.now t c.self.view_is among c.in-Variable.free v.0)

pub returns-else-is_some-clause-given : goal.returns-else-is_some-clause-given
returns-else-is_some-clause-given c =
    let s = c.self.inside.state in
    let t = counted_from c.args.first (term_at c.args.cells.now c.args.at) in
    let among = over_term s c.args.self.now c.args.first c.args.cells.now c.args.at c.self.view_is c.requires.whole c.requires.within c.requires.over in
    let v = top_variable s.slots.items _ c.in-Variable.free c.in-Variable.ensures in
    given_none (λ d. set_of d.now) c.domain_of.result _ c.domain_of.ensures c.if-is_some.ensures
    ∙ sym (place_given s c.args.self.now t c.self.view_is among c.in-Variable.free v.0)

pub returns-in_default-clause-given : goal.returns-in_default-clause-given
returns-in_default-clause-given c =
    let s = c.self.inside.state in
    let t = counted_from c.args.first (term_at c.args.cells.now c.args.at) in
    let among = over_term s c.args.self.now c.args.first c.args.cells.now c.args.at c.self.view_is c.requires.whole c.requires.within c.requires.over in
    let o = place_other s c.args.self.now t c.self.view_is among (top_other s.slots.items _ c.top.result c.top.ensures c.in_default.not-Variable c.in_default.not-Int) in
    sym (ap (given (present c.args.self.now).domains) o.is)

pub returns-in-Int-clause-row : goal.returns-in-Int-clause-row
returns-in-Int-clause-row c = row_present c.self.inside.state c.args.self.now c.self.invariant c.self.view_is

pub returns-then-is_some-clause-row : goal.returns-then-is_some-clause-row
returns-then-is_some-clause-row c = row_present c.self.inside.state c.args.self.now c.self.invariant c.self.view_is

pub returns-else-is_some-clause-row : goal.returns-else-is_some-clause-row
returns-else-is_some-clause-row c = row_present c.self.inside.state c.args.self.now c.self.invariant c.self.view_is

pub returns-in_default-clause-row : goal.returns-in_default-clause-row
returns-in_default-clause-row c = row_present c.self.inside.state c.args.self.now c.self.invariant c.self.view_is
