use Rattle.std.proofs.Common.{◌≡◌, ◌∙◌, sym, refl}
use Rattle.pp_heap.specs.Spans.{terms_of}
use Rattle.pp_heap.specs.Values.{cell_at, term_at, value_term}
use Rattle.pp_algebra.specs.Terms.{variable}
use Rattle.pp_heap.proofs.Forests.{cell_read}
use Rattle.pp_unify.proofs.HeadSteps.{gone_turned, apart_turned, opened_turned, apart_compounds, apart_value}
use Rattle.pp_unify.proofs.head.meet_compound.Goals as goal

pub returns-in_ok-push_arguments-in-Compound-clause-turned : goal.returns-in_ok-push_arguments-in-Compound-clause-turned
returns-in_ok-push_arguments-in-Compound-clause-turned c =
    let a = c.args.state.now in
    let cs = c.args.cells.now in
    let p = c.in-Compound.place in
    let v = rw c.in-Compound.is at c.requires.value in
    let i = cell_read a.heap.items p c.index.result.now c.index.ensures v.0 in
    let same : cell_at a.heap.items p ≡ cell_at cs c.args.at = i ∙ c.if-is_same.ensures.0 refl in
    let o = c.in_ok-push_arguments-in-Compound.ensures in
    rw c.in-Compound.is (opened_turned a (terms_of a.heap.items c.args.work.now.items) c.push_arguments.new.work.items p c.args.first cs c.args.at c.requires.good v.0 v.1 same c.requires.head c.requires.within o.all o.terms)

pub returns-else-is_same-clause-turned : goal.returns-else-is_same-clause-turned
returns-else-is_same-clause-turned c =
    let a = c.args.state.now in
    let p = c.in-Compound.place in
    let v = rw c.in-Compound.is at c.requires.value in
    let i = cell_read a.heap.items p c.index.result.now c.index.ensures v.0 in
    let x = apart_compounds a c.args.first c.args.cells.now c.args.at c.requires.head c.requires.within c.requires.compound p c.requires.good v.0 v.1 (λ e. absurd (cc (c.if-is_same.ensures.1 (sym i ∙ e)))) in
    rw c.in-Compound.is (apart_turned a (term_at a.heap.items p) (terms_of a.heap.items c.args.work.now.items) c.args.first c.args.cells.now c.args.at c.requires.head c.requires.within x)

pub returns-then-branch-clause-turned : goal.returns-then-branch-clause-turned
returns-then-branch-clause-turned c =
    let e = c.end_of-end.ensures in
    let v = rw c.if-branch.true at c.in_ok-bind_copy-in-Variable.ensures.stepped in
    rw c.in-Variable.is (gone_turned c.args.state.now c.bind_copy.new.state c.args.work.now.items (variable c.in-Variable.free) c.args.first c.args.cells.now c.args.at c.end_of-end.result c.requires.good c.requires.head c.requires.within c.requires.all e.ends e.later v)

pub returns-else-branch-clause-turned : goal.returns-else-branch-clause-turned
returns-else-branch-clause-turned c =
    let x = rw c.if-branch.false at c.in_ok-bind_copy-in-Variable.ensures.stepped in
    rw c.in-Variable.is (apart_turned c.args.state.now (variable c.in-Variable.free) (terms_of c.args.state.now.heap.items c.args.work.now.items) c.args.first c.args.cells.now c.args.at c.requires.head c.requires.within x)

pub returns-in_default-clause-turned : goal.returns-in_default-clause-turned
returns-in_default-clause-turned c =
    let a = c.args.state.now in
    let x = apart_value a c.args.first c.args.cells.now c.args.at c.requires.head c.requires.within c.requires.compound c.args.value (λ x e. c.in_default.not-Variable x e) (λ p e. c.in_default.not-Compound p e) in
    apart_turned a (value_term a.heap.items c.args.value) (terms_of a.heap.items c.args.work.now.items) c.args.first c.args.cells.now c.args.at c.requires.head c.requires.within x
