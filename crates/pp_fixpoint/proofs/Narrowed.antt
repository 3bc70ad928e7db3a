-- A row to which a goal is narrowed is canonical, the call covers it, and it isn't the call.
use Rattle.std.proofs.Common.{◌≡◌, ℕ, Bool, true, false, List, [], ◌∷◌, ◌++◌, length, refl, sym, ◌∙◌, subst, inl, inr}
use Rattle.std.specs.Prelude.{cond}
use Rattle.pp_algebra.specs.Rows.{Row, IsCanonical, IsRow, AreWide}
use Rattle.pp_algebra.specs.Canon.{same_row}
use Rattle.pp_algebra.specs.Covers.{IsIn, RowCovers}
use Rattle.pp_algebra.specs.Joins.{AllOf, AreOfWidth}
use Rattle.pp_algebra.specs.Least.{least_row}
use Rattle.pp_algebra.specs.Numbered.{call}
use Rattle.pp_algebra.proofs.Law.{least_row-IsCanonical, least_row-least}
use Rattle.pp_algebra.proofs.Order.{IsIn-left}
use Rattle.pp_algebra.proofs.SameRow.{same_is_equal}
use Rattle.pp_algebra.proofs.WideLeast.{least_is_row}
use Rattle.pp_sld.specs.Goals.{Shape, Program}
use Rattle.pp_sld.specs.Trace.{leaves}
use Rattle.pp_sld.specs.Leaves.{root, answer_rows, loose_rows}
use Rattle.pp_sld.specs.Verdicts.{Mode, most, unique, consistent, fail, same, nothing, unfinished, narrow, some_row, another, verdict, HasVerdict}
use Rattle.pp_sld.proofs.CallCovers.{leaves_under_call, leaves_of_width}
use Rattle.pp_sld.proofs.WideRows.{leaves_are_rows}

pub record IsNarrowing (face given : Row) : Type 0 where
  pub canonical : IsCanonical given
  pub covered : RowCovers (call face) given
  pub smaller : given ≡ call face → ⊥

narrow_is : (g r : Row) → narrow g ≡ narrow r → g ≡ r
narrow_is g r e = cc (e)

from_most : (g r : Row) (b c : Bool) → cond b same (cond c (narrow g) unfinished) ≡ narrow r → (g ≡ r) × (b ≡ false)
from_most g r true c e = let f : same ≡ narrow r = e in absurd (cc (f))
from_most g r false true e = (narrow_is g r e, refl)
from_most g r false false e = let f : unfinished ≡ narrow r = e in absurd (cc (f))

from_unique : (g r : Row) (a b c : Bool) → cond a nothing (cond b unfinished (cond c same (narrow g))) ≡ narrow r → (g ≡ r) × (c ≡ false)
from_unique g r true b c e = let f : nothing ≡ narrow r = e in absurd (cc (f))
from_unique g r false true c e = let f : unfinished ≡ narrow r = e in absurd (cc (f))
from_unique g r false false true e = let f : same ≡ narrow r = e in absurd (cc (f))
from_unique g r false false false e = (narrow_is g r e, refl)

other : (g r q : Row) → g ≡ r → same_row g q ≡ false → r ≡ q → ⊥
other g r q e f h = let t : same_row g q ≡ true = (same_is_equal g q).1 (e ∙ h) in absurd (cc (t, f))

module _ (face : Row) where
  abbrev AreUnder : List Row → Type 0
  AreUnder rs = (q : Row) → IsIn q rs → RowCovers (call face) q × IsCanonical q

  narrowed : (m : Mode) (A C : List Row) (r : Row) → AreUnder (A ++ C) → verdict m (call face) A C ≡ narrow r → IsNarrowing face r
  narrowed most [] [] r h e = let f : fail ≡ narrow r = e in absurd (cc (f))
  narrowed most [] (c ∷ C) r h e = let f : unfinished ≡ narrow r = e in absurd (cc (f))
  narrowed most (a ∷ A) C r h e =
      let is : (least_row a A ≡ r) × (same_row (least_row a A) (call face) ≡ false) = from_most (least_row a A) r (same_row (least_row a A) (call face)) (same_row (least_row a A) (least_row a (A ++ C))) e in
      record {
        canonical = subst (λ q. IsCanonical q) is.0 (least_row-IsCanonical a A);
        covered = subst (RowCovers (call face)) is.0 (least_row-least a A (call face) (λ q i. (h q (IsIn-left q (a ∷ A) C i)).0));
        smaller = other (least_row a A) r (call face) is.0 is.1;
      }
  narrowed unique [] [] r h e = let f : fail ≡ narrow r = e in absurd (cc (f))
  narrowed unique [] (c ∷ C) r h e = let f : unfinished ≡ narrow r = e in absurd (cc (f))
  narrowed unique (a ∷ A) C r h e =
      let is : (a ≡ r) × (same_row a (call face) ≡ false) = from_unique a r (another a A) (some_row C) (same_row a (call face)) e in
      record {
        canonical = subst (λ q. IsCanonical q) is.0 (h a (inl refl)).1;
        covered = subst (RowCovers (call face)) is.0 (h a (inl refl)).0;
        smaller = other a r (call face) is.0 is.1;
      }
  narrowed consistent [] [] r h e = let f : fail ≡ narrow r = e in absurd (cc (f))
  narrowed consistent [] (c ∷ C) r h e = let f : unfinished ≡ narrow r = e in absurd (cc (f))
  narrowed consistent (a ∷ A) C r h e = let f : nothing ≡ narrow r = e in absurd (cc (f))

  abbrev AreRows : List Row → Type 0
  AreRows rs = (q : Row) → IsIn q rs → IsRow q

  narrowed_row : (m : Mode) (n : ℕ) (A C : List Row) (r : Row) → AllOf n (A ++ C) → AreRows (A ++ C) → verdict m (call face) A C ≡ narrow r → IsRow r
  narrowed_row most n [] [] r w h e = let f : fail ≡ narrow r = e in absurd (cc (f))
  narrowed_row most n [] (c ∷ C) r w h e = let f : unfinished ≡ narrow r = e in absurd (cc (f))
  narrowed_row most n (a ∷ A) C r w h e =
      let is : (least_row a A ≡ r) × (same_row (least_row a A) (call face) ≡ false) = from_most (least_row a A) r (same_row (least_row a A) (call face)) (same_row (least_row a A) (least_row a (A ++ C))) e in
      let width : AreOfWidth (a ∷ A) a = λ q i. (w q (IsIn-left q (a ∷ A) C i)).1 ∙ sym (w a (inl refl)).1 in
      subst (λ q. IsRow q) is.0 (least_is_row a A width (h a (inl refl)) (λ q i. h q (inr (IsIn-left q A C i))))
  narrowed_row unique n [] [] r w h e = let f : fail ≡ narrow r = e in absurd (cc (f))
  narrowed_row unique n [] (c ∷ C) r w h e = let f : unfinished ≡ narrow r = e in absurd (cc (f))
  narrowed_row unique n (a ∷ A) C r w h e =
      let is : (a ≡ r) × (same_row a (call face) ≡ false) = from_unique a r (another a A) (some_row C) (same_row a (call face)) e in
      subst (λ q. IsRow q) is.0 (h a (inl refl))
  narrowed_row consistent n [] [] r w h e = let f : fail ≡ narrow r = e in absurd (cc (f))
  narrowed_row consistent n [] (c ∷ C) r w h e = let f : unfinished ≡ narrow r = e in absurd (cc (f))
  narrowed_row consistent n (a ∷ A) C r w h e = let f : nothing ≡ narrow r = e in absurd (cc (f))

-- what holds of the rows of a tree's leaves holds of those that a verdict speaks of
module _ (clauses : Program) (depth : ℕ) (m : Mode) (shape : Shape) (face given : Row) (h : HasVerdict clauses depth m shape face (narrow given)) where
  of_leaves : (P : List Row → Type 0) → P (answer_rows (leaves h.leaves.tree) ++ loose_rows (leaves h.leaves.tree)) → P (h.answers ++ h.loose_ends)
  of_leaves P p = subst (λ C. P (h.answers ++ C)) h.leaves.loose_ends (subst (λ A. P (A ++ loose_rows (leaves h.leaves.tree))) h.leaves.answers p)

  pub is_narrowing : IsNarrowing face given
  is_narrowing = narrowed face m h.answers h.loose_ends given (of_leaves (AreUnder face) (leaves_under_call clauses shape face depth h.leaves.tree h.leaves.is_tree)) h.is_verdict

  pub given_is_row : AreWide face.domains → IsRow given
  given_is_row w =
      narrowed_row face m (length face.domains) h.answers h.loose_ends given
      (of_leaves (AllOf (length face.domains)) (leaves_of_width clauses shape face depth h.leaves.tree h.leaves.is_tree))
      (of_leaves (AreRows face) (leaves_are_rows clauses (root shape face depth) h.leaves.tree w h.leaves.is_tree))
      h.is_verdict
