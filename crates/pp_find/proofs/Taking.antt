-- One row more: what it is joined to, and where it is known already.
use Rattle.std.proofs.Common.{◌≡◌, ◌↔◌, IsTrue, Bool, true, false, cond, ◌||◌, [], ◌∷◌, Option, Some, None, refl, ap, sym, ◌∙◌, subst, inl, inr}
use Rattle.std.proofs.Math.Logic.{∥∥₁_elim, ∥∥₁_map}
use Rattle.std.specs.Coded.{Coded-set, coded_option, coded_ℕ}
use Rattle.pp_algebra.specs.Terms.{count}
use Rattle.pp_algebra.specs.Rows.{Row, IsCanonical, pattern_of}
use Rattle.pp_algebra.specs.Canon.{same_row}
use Rattle.pp_algebra.specs.Covers.{IsIn, RowCovers}
use Rattle.pp_algebra.specs.Least.{least_row}
use Rattle.pp_algebra.proofs.Antisym.{covers_antisymmetric}
use Rattle.pp_algebra.proofs.Law.{least_row-IsCanonical, least_row-covers, count-covers}
use Rattle.pp_algebra.proofs.Order.{covers_itself}
use Rattle.pp_algebra.proofs.SameRow.{same_row-sound}
use Rattle.pp_algebra.proofs.Sets.{least_of_one}
use Rattle.pp_row.specs.Codes.{row_code}
use Rattle.pp_sld.specs.Verdicts.{Mode, most, unique, consistent}
use Rattle.pp_sld.specs.Findings.{Sole, no_row, two_rows, one_row, Finding, finds_most, finds_unique, finds_consistent, finding, join_option, join_sole}
use Rattle.pp_sld.specs.Lattice.{IsUnder, UnderIfSome, CoversIfSome, Fits, add_answer, add_loose}
use Rattle.pp_sld.proofs.Joining.{covers-two, right-covered, through, join-fits}
use Rattle.pp_sld.proofs.Fitting.{finding_fits}
use Rattle.pp_find.specs.Meanings.{AreAlike}

-- ===== rows of one width

pub width : (call r q : Row) → RowCovers call r → RowCovers call q → count r.columns ≡ count q.columns
width call r q h k = sym (count-covers call r h) ∙ count-covers call q k

pub alike_row : (call : Row) (o : Option Row) (r : Row) → ∥ UnderIfSome call o ∥₁ → RowCovers call r → AreAlike o (Some r)
alike_row call None r u k = tt
alike_row call (Some q) r u k = ∥∥₁_elim u (Coded-set coded_ℕ _ _) (λ x. width call q r x.0 k)

-- ===== a row that is known already

-- the one that covers the other is what both have in common
covered_left : (q r : Row) → IsCanonical q → RowCovers q r → least_row q (r ∷ []) ≡ q
covered_left q r c k =
    covers_antisymmetric (least_row q (r ∷ [])) q (least_row-IsCanonical q (r ∷ [])) c (least_row-covers q (r ∷ []) q (inl refl) refl) (covers-two q q r (covers_itself (pattern_of q)) k)

covered_right : (call q r : Row) → IsUnder call q → IsUnder call r → RowCovers r q → least_row q (r ∷ []) ≡ r
covered_right call q r u w k =
    covers_antisymmetric (least_row q (r ∷ [])) r (least_row-IsCanonical q (r ∷ [])) w.1 (right-covered call q r u w) (covers-two r q r k (covers_itself (pattern_of r)))

pub known : (call : Row) (o : Option Row) (r : Row) → ∥ UnderIfSome call o ∥₁ → CoversIfSome o (Some r) → o ≡ join_option o (Some r)
known call None r u k = absurd k
known call (Some q) r u k = ∥∥₁_elim u (Coded-set (coded_option row_code) _ _) (λ x. sym (ap Some (covered_left q r x.1 k)))

pub known_wider : (h g : Option Row) (r : Row) → CoversIfSome h g → CoversIfSome g (Some r) → CoversIfSome h (Some r)
known_wider h None r a k = absurd k
known_wider None (Some g) r a k = absurd a
known_wider (Some h) (Some g) r a k = through h g r a k

pub under_answers : (call : Row) (g h : Option Row) → ∥ Fits most call (finds_most g h) ∥₁ → ∥ UnderIfSome call g ∥₁
under_answers call g h x = ∥∥₁_map x (λ f. f.0)

pub under_leaves : (call : Row) (g h : Option Row) → ∥ Fits most call (finds_most g h) ∥₁ → ∥ UnderIfSome call h ∥₁
under_leaves call g h x = ∥∥₁_map x (λ f. f.1)

pub known_leaves : (call : Row) (g h : Option Row) (r : Row) → ∥ Fits most call (finds_most g h) ∥₁ → CoversIfSome g (Some r) → h ≡ join_option h (Some r)
known_leaves call g h r x k = ∥∥₁_elim x (Coded-set (coded_option row_code) _ _) (λ f. known call h r ∣ f.1 ∣₁ (known_wider h g r f.2 k))

-- ===== below

pub below_option : (call l r : Row) → ∥ IsUnder call l ∥₁ → ∥ IsUnder call r ∥₁ → RowCovers r l ↔ (join_option (Some l) (Some r) ≡ Some r)
below_option call l r x y = (
  (λ k. ∥∥₁_elim x (Coded-set (coded_option row_code) _ _) (λ u. ∥∥₁_elim y (Coded-set (coded_option row_code) _ _) (λ w. ap Some (covered_right call l r u w k)))),
  (λ e. let i : least_row l (r ∷ []) ≡ r = cc e in subst (λ z. RowCovers z l) i (least_row-covers l (r ∷ []) l (inl refl) refl)),
)

below_by : (l r : Row) (b : Bool) → b ≡ same_row l r → IsTrue b ↔ (cond b (one_row l) two_rows ≡ one_row r)
below_by l r true e = ((λ i. ap one_row (same_row-sound l r (sym e))), (λ i. refl))
below_by l r false e = ((λ i. absurd (cc i)), (λ i. absurd (cc i)))

pub below_one : (l r : Row) (b : Bool) → b ≡ same_row l r → IsTrue b ↔ (join_sole (one_row l) (one_row r) ≡ one_row r)
below_one l r b e = subst (λ x. IsTrue b ↔ (cond x (one_row l) two_rows ≡ one_row r)) e (below_by l r b e)

-- ===== the mode of a finding that fits

nothing_fits : {A : Type 0} → ∥ ⊥ ∥₁ → A
nothing_fits x = absurd (∥∥₁_elim x (λ a b. absurd a) (λ a. a))

pub is_most : (m : Mode) (call : Row) (g h : Option Row) → ∥ Fits m call (finds_most g h) ∥₁ → m ≡ most
is_most most call g h x = refl
is_most unique call g h x = nothing_fits x
is_most consistent call g h x = nothing_fits x

pub is_unique : (m : Mode) (call : Row) (s : Sole) (b : Bool) → ∥ Fits m call (finds_unique s b) ∥₁ → m ≡ unique
is_unique most call s b x = nothing_fits x
is_unique unique call s b x = refl
is_unique consistent call s b x = nothing_fits x

pub is_consistent : (m : Mode) (call : Row) (a b : Bool) → ∥ Fits m call (finds_consistent a b) ∥₁ → m ≡ consistent
is_consistent most call a b x = nothing_fits x
is_consistent unique call a b x = nothing_fits x
is_consistent consistent call a b x = refl

pub most_fits : (m : Mode) (call : Row) (g h : Option Row) → ∥ Fits m call (finds_most g h) ∥₁ → ∥ Fits most call (finds_most g h) ∥₁
most_fits most call g h x = x
most_fits unique call g h x = nothing_fits x
most_fits consistent call g h x = nothing_fits x

-- ===== one answer more, one loose end more

option_end : (o : Option Row) → join_option o None ≡ o
option_end None = refl
option_end (Some r) = refl

sole_end : (s : Sole) → join_sole s no_row ≡ s
sole_end no_row = refl
sole_end two_rows = refl
sole_end (one_row r) = refl

or_false : (b : Bool) → (b || false) ≡ b
or_false true = refl
or_false false = refl

or_true : (b : Bool) → (b || true) ≡ true
or_true true = refl
or_true false = refl

pub answer_most : (m : Mode) (call r : Row) (g h k l : Option Row) → ∥ Fits m call (finds_most g h) ∥₁ → IsCanonical r → k ≡ join_option g (Some r) → l ≡ join_option h (Some r) → finds_most k l ≡ add_answer m r (finds_most g h)
answer_most m call r g h k l x c a b =
    ap (λ z. finds_most z l) a ∙ ap (finds_most (join_option g (Some r))) b ∙ ap (λ z. finds_most (join_option g (Some z)) (join_option h (Some z))) (sym (least_of_one r c)) ∙ ap (λ z. add_answer z r (finds_most g h)) (sym (is_most m call g h x))

pub loose_most : (m : Mode) (call r : Row) (g h l : Option Row) → ∥ Fits m call (finds_most g h) ∥₁ → IsCanonical r → l ≡ join_option h (Some r) → finds_most g l ≡ add_loose m r (finds_most g h)
loose_most m call r g h l x c b =
    ap (finds_most g) b ∙ ap (λ z. finds_most z (join_option h (Some r))) (sym (option_end g)) ∙ ap (λ z. finds_most (join_option g None) (join_option h (Some z))) (sym (least_of_one r c)) ∙ ap (λ z. add_loose z r (finds_most g h)) (sym (is_most m call g h x))

pub answer_unique : (m : Mode) (call r : Row) (s t : Sole) (b : Bool) → ∥ Fits m call (finds_unique s b) ∥₁ → t ≡ join_sole s (one_row r) → finds_unique t b ≡ add_answer m r (finds_unique s b)
answer_unique m call r s t b x a =
    ap (λ z. finds_unique z b) a ∙ ap (finds_unique (join_sole s (one_row r))) (sym (or_false b)) ∙ ap (λ z. add_answer z r (finds_unique s b)) (sym (is_unique m call s b x))

pub loose_unique : (m : Mode) (call r : Row) (s : Sole) (b : Bool) → ∥ Fits m call (finds_unique s b) ∥₁ → finds_unique s true ≡ add_loose m r (finds_unique s b)
loose_unique m call r s b x =
    ap (λ z. finds_unique z true) (sym (sole_end s)) ∙ ap (finds_unique (join_sole s no_row)) (sym (or_true b)) ∙ ap (λ z. add_loose z r (finds_unique s b)) (sym (is_unique m call s b x))

pub answer_consistent : (m : Mode) (call r : Row) (a b : Bool) → ∥ Fits m call (finds_consistent a b) ∥₁ → finds_consistent true b ≡ add_answer m r (finds_consistent a b)
answer_consistent m call r a b x =
    ap (λ z. finds_consistent z b) (sym (or_true a)) ∙ ap (finds_consistent (a || true)) (sym (or_false b)) ∙ ap (λ z. add_answer z r (finds_consistent a b)) (sym (is_consistent m call a b x))

pub loose_consistent : (m : Mode) (call r : Row) (a b : Bool) → ∥ Fits m call (finds_consistent a b) ∥₁ → finds_consistent a true ≡ add_loose m r (finds_consistent a b)
loose_consistent m call r a b x =
    ap (λ z. finds_consistent z true) (sym (or_false a)) ∙ ap (finds_consistent (a || false)) (sym (or_true b)) ∙ ap (λ z. add_loose z r (finds_consistent a b)) (sym (is_consistent m call a b x))

-- both fit
only : (call r : Row) → RowCovers call r → IsCanonical r → (q : Row) → IsIn q (r ∷ []) → IsUnder call q
only call r k c q (inl e) = subst (IsUnder call) e (k, c)
only call r k c q (inr e) = absurd e

pub answer_fits : (m : Mode) (call r : Row) (f e : Finding) → ∥ Fits m call f ∥₁ → RowCovers call r → IsCanonical r → e ≡ add_answer m r f → ∥ Fits m call e ∥₁
answer_fits m call r f e x k c i = ∥∥₁_map x (λ z. subst (Fits m call) (sym i) (join-fits m call f (finding m (r ∷ []) []) z (finding_fits m call (r ∷ []) [] (only call r k c) (λ q j. absurd j))))

pub loose_fits : (m : Mode) (call r : Row) (f e : Finding) → ∥ Fits m call f ∥₁ → RowCovers call r → IsCanonical r → e ≡ add_loose m r f → ∥ Fits m call e ∥₁
loose_fits m call r f e x k c i = ∥∥₁_map x (λ z. subst (Fits m call) (sym i) (join-fits m call f (finding m [] (r ∷ [])) z (finding_fits m call [] (r ∷ []) (λ q j. absurd j) (only call r k c))))
