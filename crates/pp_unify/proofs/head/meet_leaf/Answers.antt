use Rattle.std.proofs.Common.{◌+◌, ap, subst}
use Rattle.std.proofs.lemmas.Result.{IfOk-weaker}
use Rattle.pp_algebra.specs.Terms.{int, node, none}
use Rattle.pp_algebra.specs.Solve.{equation}
use Rattle.pp_algebra.specs.Numbered.{counted_from}
use Rattle.pp_row.specs.Cells.{IsLegalCell}
use Rattle.pp_heap.specs.Values.{value_term}
use Rattle.pp_heap.specs.Outcomes.{IsVerdict}
use Rattle.pp_heap.proofs.Forests.{legal_at, int_at, atom_at}
use Rattle.pp_heap.proofs.Words.{word}
use Rattle.pp_unify.specs.Heads.{HasMetVariable, HasStepped}
use Rattle.pp_unify.proofs.Stepping.{fixed_stepped, variable_stepped}
use Rattle.pp_unify.proofs.head.meet_leaf.Goals as goal

pub returns-in-Int-clause-stepped : goal.returns-in-Int-clause-stepped
returns-in-Int-clause-stepped c =
    let a = c.args.state.now in
    let b = c.meet_int.new.state in
    let cs = c.args.cells.now in
    let t = value_term a.heap.items c.args.value in
    let z = c.in-Int.known in
    let n = subst IsLegalCell c.in-Int.is (legal_at cs c.args.at c.requires.head c.requires.within) in
    let e = ap (counted_from c.args.first) (int_at cs c.args.at z c.requires.head c.requires.within c.in-Int.is) in
    IfOk-weaker c.meet_int.result (IsVerdict a b (equation t (int z))) (HasStepped a b t c.args.first cs c.args.at)
    (λ r v. fixed_stepped a b t (int z) c.args.first cs c.args.at r c.meet_int.ensures.later e v)
    (rw (word z n) at c.meet_int.ensures.verdict)

pub returns-in-Atom-clause-stepped : goal.returns-in-Atom-clause-stepped
returns-in-Atom-clause-stepped c =
    let a = c.args.state.now in
    let b = c.meet_atom.new.state in
    let cs = c.args.cells.now in
    let t = value_term a.heap.items c.args.value in
    let u = node c.in-Atom.name none in
    let e = ap (counted_from c.args.first) (atom_at cs c.args.at c.in-Atom.name c.requires.head c.requires.within c.in-Atom.is) in
    IfOk-weaker c.meet_atom.result (IsVerdict a b (equation t u)) (HasStepped a b t c.args.first cs c.args.at)
    (λ r v. fixed_stepped a b t u c.args.first cs c.args.at r c.meet_atom.ensures.later e v)
    c.meet_atom.ensures.verdict

pub returns-in-Var-clause-stepped : goal.returns-in-Var-clause-stepped
returns-in-Var-clause-stepped c =
    let a = c.args.state.now in
    let b = c.meet_variable.new.state in
    let cs = c.args.cells.now in
    let t = value_term a.heap.items c.args.value in
    let x = c.in-Var.variable in
    IfOk-weaker c.meet_variable.result (HasMetVariable a b t (c.args.first + x)) (HasStepped a b t c.args.first cs c.args.at)
    (λ r v. variable_stepped a b t c.args.first cs c.args.at x r c.requires.head c.requires.within c.in-Var.is v)
    c.meet_variable.ensures.met
