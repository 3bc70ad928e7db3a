use Rattle.std.proofs.Common.{ap, ◌∙◌, subst, refl}
use Rattle.pp_algebra.specs.Terms.{put}
use Rattle.pp_row.specs.Cells.{IsLegalCell}
use Rattle.pp_heap.specs.declared.state.Value.TheVariants.{Int, Atom}
use Rattle.pp_heap.specs.Soundness.{IsCompound}
use Rattle.pp_algebra.specs.Numbered.{counted_from}
use Rattle.pp_heap.proofs.Forests.{legal_at, int_at, atom_at, variable_at}
use Rattle.pp_heap.proofs.Words.{word}
use Rattle.pp_unify.proofs.terms.leaf_slot.Goals as goal

pub returns-in-Int : goal.returns-in-Int
returns-in-Int c =
    let cs = c.args.cells.now in
    let e = c.in-Int.is in
    let n = subst IsLegalCell e (legal_at cs c.args.at c.requires.head.forest c.requires.within) in
    rw (word c.in-Int.value n) (record {
      plain = λ h. subst IsCompound e h;
      slot = (
        Int c.in-Int.value,
        refl,
        record {
          now = n;
          same = λ ds s a. ap (λ t. put s (counted_from c.args.first t)) (int_at cs c.args.at c.in-Int.value c.requires.head.forest c.requires.within e);
        },
      );
    })

pub returns-in-Atom : goal.returns-in-Atom
returns-in-Atom c =
    let cs = c.args.cells.now in
    let e = c.in-Atom.is in
    record {
      plain = λ h. subst IsCompound e h;
      slot = (
        Atom c.in-Atom.name,
        refl,
        record {
          now = tt;
          same = λ ds s a. ap (λ t. put s (counted_from c.args.first t)) (atom_at cs c.args.at c.in-Atom.name c.requires.head.forest c.requires.within e);
        },
      );
    }

pub returns-in-Var : goal.returns-in-Var
returns-in-Var c =
    let cs = c.args.cells.now in
    let e = c.in-Var.is in
    let v = c.slot_for_variable.ensures in
    record {
      plain = λ h. subst IsCompound e h;
      slot = (
        v.0,
        v.1,
        record {
          now = v.2.now;
          same = λ ds s a. ap (λ t. put s (counted_from c.args.first t)) (variable_at cs c.args.at c.in-Var.variable c.requires.head.forest c.requires.within e) ∙ v.2.same ds s a;
        },
      );
    }
