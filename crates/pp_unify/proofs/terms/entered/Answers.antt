use Rattle.std.proofs.Common.{◌≡◌, ◌+◌, ◌<◌, refl, ap, sym, ◌∙◌, subst, inl, arith, length}
use Rattle.pp_algebra.specs.Terms.{put, variables}
use Rattle.pp_algebra.specs.Covers.{IsIn}
use Rattle.pp_row.specs.Cells.{IsLegalCell}
use Rattle.pp_heap.specs.declared.state.Value.TheVariants.{Int, Atom}
use Rattle.pp_heap.specs.Values.{shifted, term_at, cell_at}
use Rattle.pp_heap.specs.Soundness.{IsCompound}
use Rattle.pp_heap.specs.Stores.{store_of}
use Rattle.pp_algebra.specs.Numbered.{counted_from}
use Rattle.pp_heap.specs.Outcomes.{IsValue}
use Rattle.pp_heap.proofs.Forests.{legal_at}
use Rattle.pp_unify.proofs.Grown.{shifted_cells, counted_term, cells_among, last_term, last_within, last_compound}
use Rattle.pp_unify.proofs.Equations.{grown_itself}
use Rattle.pp_unify.proofs.Tops.{some_cell, int_first, atom_first, variable_first}
use Rattle.pp_heap.proofs.Words.{word}
use Rattle.pp_unify.proofs.terms.entered.Goals as goal
use Rattle.pp_row.proofs.InStep.{is_forest}

pub bounds-0 : goal.bounds-0
bounds-0 c = some_cell c.args.term.now c.cells-cells.result.now c.cells-cells.ensures.cells c.cells-cells.ensures.term

pub bounds-cells-0 : goal.bounds-cells-0
bounds-cells-0 c = some_cell c.args.term.now c.cells-cells.result.now c.cells-cells.ensures.cells c.cells-cells.ensures.term

pub returns-in-Int : goal.returns-in-Int
returns-in-Int c =
    let a = c.args.state.now in
    let t = c.args.term.now in
    let cs = c.cells-cells.result.now in
    let n = subst IsLegalCell c.in-Int.is (legal_at cs 0 (is_forest t cs c.cells-cells.ensures.cells c.cells-cells.ensures.term) (some_cell t cs c.cells-cells.ensures.cells c.cells-cells.ensures.term)) in
    let e = int_first t cs c.cells-cells.ensures.cells c.cells-cells.ensures.term c.in-Int.value c.in-Int.is in
    record {
      grown = grown_itself a c.requires.good;
      value = rw (word c.in-Int.value n) (subst (λ u. IsValue (store_of a) (counted_from c.args.first u) (Int c.in-Int.value)) (sym e) (record { now = n; same = λ ds s x. refl }));
    }

pub returns-in-Atom : goal.returns-in-Atom
returns-in-Atom c =
    let a = c.args.state.now in
    let e = atom_first c.args.term.now c.cells-cells.result.now c.cells-cells.ensures.cells c.cells-cells.ensures.term c.in-Atom.name c.in-Atom.is in
    record {
      grown = grown_itself a c.requires.good;
      value = subst (λ u. IsValue (store_of a) (counted_from c.args.first u) (Atom c.in-Atom.name)) (sym e) (record { now = tt; same = λ ds s x. refl });
    }

pub grow-requires-clause-forest : goal.grow-requires-clause-forest
grow-requires-clause-forest c =
    let t = c.args.term.now in
    let cs = c.cells-cells.result.now in
    is_forest (counted_from c.args.first t) (shifted c.args.first cs) (shifted_cells c.args.first t cs c.cells-cells.ensures.cells) (counted_term c.args.first t c.cells-cells.ensures.term)

pub grow-requires-clause-variables : goal.grow-requires-clause-variables
grow-requires-clause-variables c =
    let t = c.args.term.now in
    let cs = c.cells-cells.result.now in
    cells_among c.args.state.now.slots.items (counted_from c.args.first t) (shifted c.args.first cs) (shifted_cells c.args.first t cs c.cells-cells.ensures.cells) c.requires.among

pub overflow_add-first : goal.overflow_add-first
overflow_add-first c =
    let e = variable_first c.args.term.now c.cells-cells.result.now c.cells-cells.ensures.cells c.cells-cells.ensures.term c.in-Var.variable c.in-Var.is in
    let l = c.requires.among (c.args.first + c.in-Var.variable) (subst (λ t. IsIn (c.args.first + c.in-Var.variable) (variables (counted_from c.args.first t))) (sym e) (inl refl)) in
    omega (arith, l, c.requires.good.few)

pub value_of-requires-clause-within : goal.value_of-requires-clause-within
value_of-requires-clause-within c =
    let e = variable_first c.args.term.now c.cells-cells.result.now c.cells-cells.ensures.cells c.cells-cells.ensures.term c.in-Var.variable c.in-Var.is in
    c.requires.among (c.args.first + c.in-Var.variable) (subst (λ t. IsIn (c.args.first + c.in-Var.variable) (variables (counted_from c.args.first t))) (sym e) (inl refl))

pub returns-in_ok-grow-in-Compound-clause-value : goal.returns-in_ok-grow-in-Compound-clause-value
returns-in_ok-grow-in-Compound-clause-value c =
    let old = c.args.state.now.heap.items in
    let new = c.grow.new.self.heap.items in
    let t = c.args.term.now in
    let cs = c.cells-cells.result.now in
    let k = shifted_cells c.args.first t cs c.cells-cells.ensures.cells in
    let at = c.in_ok-grow-in-Compound.field-0 in
    let g = c.in_ok-grow-in-Compound.ensures in
    let same : term_at new at ≡ counted_from c.args.first t = ap (λ ds. term_at ds at) g.heap ∙ last_term old (shifted c.args.first cs) (counted_from c.args.first t) at k g.at in
    record {
      now = (
        subst (λ ds. at < length ds) (sym g.heap) (last_within old (shifted c.args.first cs) (counted_from c.args.first t) at k g.at),
        subst (λ ds. IsCompound (cell_at ds at)) (sym g.heap) (last_compound old cs c.args.first at c.in-Compound.field-0 c.in-Compound.field-1 c.in-Compound.is g.at),
      );
      same = λ ds s x. ap (put s) (sym same);
    }

pub returns-in-Var : goal.returns-in-Var
returns-in-Var c =
    let a = c.args.state.now in
    let e = variable_first c.args.term.now c.cells-cells.result.now c.cells-cells.ensures.cells c.cells-cells.ensures.term c.in-Var.variable c.in-Var.is in
    record {
      grown = grown_itself a c.requires.good;
      value = subst (λ u. IsValue (store_of a) (counted_from c.args.first u) c.value_of.result) (sym e) c.value_of.ensures;
    }
