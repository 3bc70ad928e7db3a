use Rattle.std.proofs.Common.{ap, ◌∙◌, subst}
use Rattle.pp_algebra.specs.Terms.{put}
use Rattle.pp_row.specs.Cells.{IsLegalCell}
use Rattle.pp_heap.specs.Soundness.{IsCompound}
use Rattle.pp_algebra.specs.Numbered.{counted_from}
use Rattle.pp_heap.proofs.Forests.{legal_at, int_at, atom_at, variable_at}
use Rattle.pp_heap.proofs.Words.{word}
use Rattle.pp_unify.proofs.terms.leaf.Goals as goal

pub returns-in-Int : goal.returns-in-Int
returns-in-Int c =
    let cs = c.args.cells.now in
    let e = c.in-Int.is in
    let n = subst IsLegalCell e (legal_at cs c.args.at c.requires.head.forest c.requires.within) in
    rw (word c.in-Int.value n) (record {
      plain = λ h. subst IsCompound e h;
      value = record {
        now = n;
        same = λ ds s a. ap (λ t. put s (counted_from c.args.first t)) (int_at cs c.args.at c.in-Int.value c.requires.head.forest c.requires.within e);
      };
    })

pub returns-in-Atom : goal.returns-in-Atom
returns-in-Atom c =
    let cs = c.args.cells.now in
    let e = c.in-Atom.is in
    record {
      plain = λ h. subst IsCompound e h;
      value = record {
        now = tt;
        same = λ ds s a. ap (λ t. put s (counted_from c.args.first t)) (atom_at cs c.args.at c.in-Atom.name c.requires.head.forest c.requires.within e);
      };
    }

pub returns-in-Var : goal.returns-in-Var
returns-in-Var c =
    let cs = c.args.cells.now in
    let e = c.in-Var.is in
    record {
      plain = λ h. subst IsCompound e h;
      value = record {
        now = c.value_of.ensures.now;
        same = λ ds s a. ap (λ t. put s (counted_from c.args.first t)) (variable_at cs c.args.at c.in-Var.variable c.requires.head.forest c.requires.within e) ∙ c.value_of.ensures.same ds s a;
      };
    }
