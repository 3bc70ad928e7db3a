-- The least generalisation depends on which rows there are alone.
use Rattle.std.proofs.Common.{◌≡◌, ℕ, List, [], ◌∷◌, ◌++◌, refl, ap, sym, ◌∙◌, subst, inl, inr}
use Rattle.pp_algebra.specs.Terms.{count}
use Rattle.pp_algebra.specs.Covers.{IsIn, RowCovers}
use Rattle.pp_algebra.specs.Rows.{Row, IsCanonical, pattern_of}
use Rattle.pp_algebra.specs.Least.{least_row}
use Rattle.pp_algebra.specs.Joins.{one, two, AreOfWidth, SameRows, AllOf}
use Rattle.pp_algebra.proofs.Order.{covers_itself, covers_through, IsIn-left, IsIn-right}
use Rattle.pp_algebra.proofs.Antisym.{covers_antisymmetric, IsIn-either}
use Rattle.pp_algebra.proofs.Law.{least_row-IsCanonical, least_row-covers, least_row-least, count-covers, joins_law}

-- rows that stand in the second list are covered by its least generalisation, and so is theirs
covers_fewer : (r q : Row) (rs qs : List Row) → AreOfWidth (q ∷ qs) q → ((p : Row) → IsIn p (r ∷ rs) → IsIn p (q ∷ qs)) → RowCovers (least_row q qs) (least_row r rs)
covers_fewer r q rs qs w s = least_row-least r rs (least_row q qs) (λ p i. least_row-covers q qs p (s p i) (w p (s p i)))

pub least_of_same : (r q : Row) (rs qs : List Row) → AreOfWidth (r ∷ rs) r → SameRows (r ∷ rs) (q ∷ qs) → least_row r rs ≡ least_row q qs
least_of_same r q rs qs w s =
    let v : AreOfWidth (q ∷ qs) q = λ p i. w p (s.1 p i) ∙ sym (w q (s.1 q (inl refl))) in
    covers_antisymmetric (least_row r rs) (least_row q qs) (least_row-IsCanonical r rs) (least_row-IsCanonical q qs) (covers_fewer q r qs rs w s.1) (covers_fewer r q rs qs v s.0)

-- of more rows it is more general
pub least_of_more : (r : Row) (rs cs : List Row) → AreOfWidth (r ∷ rs) r → RowCovers (least_row r (rs ++ cs)) (least_row r rs)
least_of_more r rs cs w = least_row-least r rs (least_row r (rs ++ cs)) (λ p i. least_row-covers r (rs ++ cs) p (IsIn-left p (r ∷ rs) cs i) (w p i))

least-width : (r : Row) (rs : List Row) → count (least_row r rs).columns ≡ count r.columns
least-width r rs = count-covers (least_row r rs) r (least_row-covers r rs r (inl refl) refl)

-- of parts it is that of the whole
pub least_in_parts : (r q : Row) (rs qs : List Row) → AreOfWidth ((r ∷ rs) ++ (q ∷ qs)) r → least_row (least_row r rs) (least_row q qs ∷ []) ≡ least_row r (rs ++ q ∷ qs)
least_in_parts r q rs qs w =
    let left_one = least_row r rs in
    let other = least_row q qs in
    let left : (p : Row) → IsIn p (r ∷ rs) → count p.columns ≡ count r.columns = λ p i. w p (IsIn-left p (r ∷ rs) (q ∷ qs) i) in
    let right : (p : Row) → IsIn p (q ∷ qs) → count p.columns ≡ count r.columns = λ p i. w p (IsIn-right p (r ∷ rs) (q ∷ qs) i) in
    let even : count other.columns ≡ count left_one.columns = least-width q qs ∙ right q (inl refl) ∙ sym (least-width r rs) in
    let each : (p : Row) → IsIn p ((r ∷ rs) ++ (q ∷ qs)) → RowCovers (least_row left_one (other ∷ [])) p = λ p i. elim (IsIn-either p (r ∷ rs) (q ∷ qs) i) [
      | inl j ↦ covers_through _ _ _ (least_row-covers left_one (other ∷ []) left_one (inl refl) refl) (least_row-covers r rs p j (left p j))
      | inr j ↦ covers_through _ _ _ (least_row-covers left_one (other ∷ []) other (inr (inl refl)) even) (least_row-covers q qs p j (right p j ∙ sym (right q (inl refl))))
    ] in
    let whole = least_row r (rs ++ q ∷ qs) in
    let covers : (p : Row) → IsIn p ((r ∷ rs) ++ (q ∷ qs)) → RowCovers whole p = λ p i. least_row-covers r (rs ++ q ∷ qs) p i (w p i) in
    covers_antisymmetric (least_row left_one (other ∷ [])) whole (least_row-IsCanonical left_one (other ∷ [])) (least_row-IsCanonical r (rs ++ q ∷ qs))
    (least_row-least r (rs ++ q ∷ qs) (least_row left_one (other ∷ [])) each)
    (least_row-least left_one (other ∷ []) whole (λ p i. elim i [
      | inl e ↦ subst (RowCovers whole) e (least_row-least r rs whole (λ x j. covers x (IsIn-left x (r ∷ rs) (q ∷ qs) j)))
      | inr k ↦ elim k [ inl e ↦ subst (RowCovers whole) e (least_row-least q qs whole (λ x j. covers x (IsIn-right x (r ∷ rs) (q ∷ qs) j))) | inr f ↦ absurd f ]
    ]))

-- of one row it is that row
pub least_of_one : (r : Row) → IsCanonical r → least_row r [] ≡ r
least_of_one r c = covers_antisymmetric (least_row r []) r (least_row-IsCanonical r []) c (least_row-covers r [] r (inl refl) refl) (least_row-least r [] r (λ p i. elim i [ inl e ↦ subst (RowCovers r) e (covers_itself (pattern_of r)) | inr f ↦ absurd f ]))

turn_two : (r q : Row) → SameRows (r ∷ q ∷ []) (q ∷ r ∷ [])
turn_two r q = (turn r q, turn q r)
  where
    turn : (r q p : Row) → IsIn p (r ∷ q ∷ []) → IsIn p (q ∷ r ∷ [])
    turn r q p (inl e) = inr (inl e)
    turn r q p (inr (inl e)) = inl e
    turn r q p (inr (inr f)) = absurd f

wide_two : (r q : Row) → count q.columns ≡ count r.columns → AreOfWidth (r ∷ q ∷ []) r
wide_two r q e p (inl f) = ap (λ x. count x.columns) (sym f)
wide_two r q e p (inr (inl f)) = ap (λ x. count x.columns) (sym f) ∙ e
wide_two r q e p (inr (inr f)) = absurd f

pub least_commutes : (r q : Row) → count q.columns ≡ count r.columns → least_row r (q ∷ []) ≡ least_row q (r ∷ [])
least_commutes r q e = least_of_same r q (q ∷ []) (r ∷ []) (wide_two r q e) (turn_two r q)

-- in either grouping
pub least_associates : (n : ℕ) (r q p : Row) → AllOf n (r ∷ q ∷ p ∷ []) → least_row (least_row r (q ∷ [])) (p ∷ []) ≡ least_row r (least_row q (p ∷ []) ∷ [])
least_associates n r q p h =
    joins_law n r (q ∷ p ∷ []) (two (two (one r) (one q)) (one p)) h (λ x i. i) (λ x i. i)
    ∙ sym (joins_law n r (q ∷ p ∷ []) (two (one r) (two (one q) (one p))) h (λ x i. i) (λ x i. i))

pub least_is_idempotent : (r : Row) → IsCanonical r → least_row r (r ∷ []) ≡ r
least_is_idempotent r c =
    least_of_same r r (r ∷ []) [] (wide_two r r refl) ((λ p i. elim i [ inl e ↦ inl e | inr j ↦ j ]), (λ p i. elim i [ inl e ↦ inl e | inr f ↦ absurd f ])) ∙ least_of_one r c
