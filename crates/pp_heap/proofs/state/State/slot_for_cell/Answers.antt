use Rattle.std.proofs.Common.{◌∙◌, ap, subst, refl}
use Rattle.pp_algebra.specs.Terms.{put}
use Rattle.pp_row.specs.Cells.{IsLegalCell}
use Rattle.pp_heap.specs.declared.state.Value.TheVariants.{Int, Atom, Compound}
use Rattle.pp_heap.proofs.Forests.{cell_read, legal_at, variable_at, int_at, atom_at}
use Rattle.pp_heap.proofs.Words.{word}
use Rattle.pp_heap.proofs.state.State.slot_for_cell.Goals as goal

pub slot_for_variable-requires-clause-within : goal.slot_for_variable-requires-clause-within
slot_for_variable-requires-clause-within c = c.requires.linked.variables c.args.at c.in-Var.variable (cell_read c.args.self.now.heap.items c.args.at c.index.result.now c.index.ensures c.requires.within ∙ c.in-Var.is)

pub returns-in-Int : goal.returns-in-Int
returns-in-Int c =
    let e = cell_read c.args.self.now.heap.items c.args.at c.index.result.now c.index.ensures c.requires.within ∙ c.in-Int.is in
    let n = subst IsLegalCell e (legal_at c.args.self.now.heap.items c.args.at c.requires.linked.forest c.requires.within) in
    rw (word c.in-Int.value n) (
      Int c.in-Int.value,
      refl,
      record {
        now = n;
        same = λ ds s a. ap (put s) (int_at c.args.self.now.heap.items c.args.at c.in-Int.value c.requires.linked.forest c.requires.within e);
      },
    )

pub returns-in-Atom : goal.returns-in-Atom
returns-in-Atom c =
    let e = cell_read c.args.self.now.heap.items c.args.at c.index.result.now c.index.ensures c.requires.within ∙ c.in-Atom.is in (
      Atom c.in-Atom.name,
      refl,
      record {
        now = tt;
        same = λ ds s a. ap (put s) (atom_at c.args.self.now.heap.items c.args.at c.in-Atom.name c.requires.linked.forest c.requires.within e);
      },
    )

pub returns-in-Compound : goal.returns-in-Compound
returns-in-Compound c =
    let e = cell_read c.args.self.now.heap.items c.args.at c.index.result.now c.index.ensures c.requires.within ∙ c.in-Compound.is in
    (Compound c.args.at, refl, record { now = (c.requires.within, rw e tt); same = λ ds s a. refl })

pub returns-in-Var : goal.returns-in-Var
returns-in-Var c =
    let e = cell_read c.args.self.now.heap.items c.args.at c.index.result.now c.index.ensures c.requires.within ∙ c.in-Var.is in
    let v = c.slot_for_variable.ensures in (
      v.0,
      v.1,
      record {
        now = v.2.now;
        same = λ ds s a. ap (put s) (variable_at c.args.self.now.heap.items c.args.at c.in-Var.variable c.requires.linked.forest c.requires.within e) ∙ v.2.same ds s a;
      },
    )
