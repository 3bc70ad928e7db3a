use Rattle.std.proofs.Common.{◌≡◌, ℕ, List, true, ap, ◌∙◌, subst}
use Rattle.std.proofs.lemmas.Result.{IfOk-weaker}
use Rattle.pp_algebra.specs.Terms.{more}
use Rattle.pp_algebra.specs.Rows.{domain_at}
use Rattle.pp_row.specs.Columns.{sets_of}
use Rattle.pp_algebra.specs.Rows.{Domains}
use Rattle.pp_row.specs.Cells.{IsLegalCell}
use Rattle.pp_heap.specs.declared.state.Value.{Value}
use Rattle.pp_heap.specs.declared.state.Value.TheVariants.{Int}
use Rattle.pp_heap.proofs.Words.{word}
use Rattle.pp_heap.specs.Values.{value_term}
use Rattle.pp_heap.specs.Spans.{terms_of}
use Rattle.pp_unify.specs.Covering.{AreBound, IsBound, IsMet}
use Rattle.pp_unify.proofs.Covering.{met_int, met_atom, met_var}
use Rattle.pp_unify.proofs.cover.meet.Goals as goal

pub returns-in-Int-clause-met : goal.returns-in-Int-clause-met
returns-in-Int-clause-met c = λ h.
    let t = c.args.state.now in
    met_int t (domain_at (sets_of c.args.domains.now)) c.args.cover.now.bound.items c.args.cell c.in-Int.known c.args.value (terms_of t.heap.items c.args.cover.now.work.items) c.requires.bound c.in-Int.is (c.is_same_value.ensures.0 h ∙ ap Int (word c.in-Int.known (subst IsLegalCell c.in-Int.is c.requires.legal)))

pub returns-in-Atom-clause-met : goal.returns-in-Atom-clause-met
returns-in-Atom-clause-met c = λ h.
    let t = c.args.state.now in
    met_atom t (domain_at (sets_of c.args.domains.now)) c.args.cover.now.bound.items c.args.cell c.in-Atom.name c.args.value (terms_of t.heap.items c.args.cover.now.work.items) c.requires.bound c.in-Atom.is (c.is_same_value-in-Atom.ensures.0 h)

pub returns-in-Compound-clause-met : goal.returns-in-Compound-clause-met
returns-in-Compound-clause-met c =
    let t = c.args.state.now in
    let h = t.heap.items in
    let cs = c.args.cover.now.bound.items in
    let ds = domain_at (sets_of c.args.domains.now) in
    let us = more (value_term h c.args.value) (terms_of h c.args.cover.now.work.items) in
    let qs = terms_of h c.meet_compound.new.work.items in
    IfOk-weaker c.meet_compound.result (λ is. is ≡ true → (es : Domains ℕ) (bs : List Value) → AreBound t es bs → IsMet t es bs bs c.args.cell us qs) (λ is. is ≡ true → IsMet t ds cs cs c.args.cell us qs)
    (λ is k e. k e ds cs c.requires.bound)
    c.meet_compound.ensures.met

pub returns-in-Var-clause-met : goal.returns-in-Var-clause-met
returns-in-Var-clause-met c =
    let t = c.args.state.now in
    let h = t.heap.items in
    let old = c.args.cover.now.bound.items in
    let new = c.bind.new.cover.bound.items in
    let ds = domain_at (sets_of c.args.domains.now) in
    let ws = terms_of h c.args.cover.now.work.items in
    let qs = terms_of h c.bind.new.cover.work.items in
    IfOk-weaker c.bind.result (λ is. is ≡ true → IsBound t ds old new c.in-Var.variable c.args.value) (λ is. is ≡ true → IsMet t ds old new c.args.cell (more (value_term h c.args.value) ws) qs)
    (λ is k e. met_var t ds old new c.args.cell c.in-Var.variable c.args.value ws qs (k e) c.in-Var.is (ap (terms_of h) c.bind.ensures.work))
    c.bind.ensures.bound
