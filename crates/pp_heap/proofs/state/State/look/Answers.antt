use Rattle.std.proofs.Common.{◌∙◌, ap, subst, refl}
use Rattle.pp_algebra.specs.Terms.{put}
use Rattle.pp_row.specs.Cells.{IsLegalCell}
use Rattle.pp_heap.proofs.Forests.{cell_read, legal_at, variable_at, int_at, atom_at}
use Rattle.pp_heap.proofs.Words.{word}
use Rattle.pp_heap.proofs.state.State.look.Goals as goal

pub value_of-requires-clause-within : goal.value_of-requires-clause-within
value_of-requires-clause-within c = c.requires.linked.variables c.args.at c.in-Var.variable (cell_read c.args.self.now.heap.items c.args.at c.index.result.now c.index.ensures c.requires.within ∙ c.in-Var.is)

pub returns-in-Int : goal.returns-in-Int
returns-in-Int c =
    let e = cell_read c.args.self.now.heap.items c.args.at c.index.result.now c.index.ensures c.requires.within ∙ c.in-Int.is in
    let n = subst IsLegalCell e (legal_at c.args.self.now.heap.items c.args.at c.requires.linked.forest c.requires.within) in
    rw (word c.in-Int.value n) (record {
      now = n;
      same = λ ds s a. ap (put s) (int_at c.args.self.now.heap.items c.args.at c.in-Int.value c.requires.linked.forest c.requires.within e);
    })

pub returns-in-Atom : goal.returns-in-Atom
returns-in-Atom c =
    let e = cell_read c.args.self.now.heap.items c.args.at c.index.result.now c.index.ensures c.requires.within ∙ c.in-Atom.is in
    record {
      now = tt;
      same = λ ds s a. ap (put s) (atom_at c.args.self.now.heap.items c.args.at c.in-Atom.name c.requires.linked.forest c.requires.within e);
    }

pub returns-in-Compound : goal.returns-in-Compound
returns-in-Compound c =
    let e = cell_read c.args.self.now.heap.items c.args.at c.index.result.now c.index.ensures c.requires.within ∙ c.in-Compound.is in
    record {
      now = (c.requires.within, rw e tt);
      same = λ ds s a. refl;
    }

pub returns-in-Var : goal.returns-in-Var
returns-in-Var c =
    let e = cell_read c.args.self.now.heap.items c.args.at c.index.result.now c.index.ensures c.requires.within ∙ c.in-Var.is in
    record {
      now = c.value_of.ensures.now;
      same = λ ds s a. ap (put s) (variable_at c.args.self.now.heap.items c.args.at c.in-Var.variable c.requires.linked.forest c.requires.within e) ∙ c.value_of.ensures.same ds s a;
    }
