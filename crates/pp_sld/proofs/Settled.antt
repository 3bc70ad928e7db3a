-- A settled finding stays settled, with its outcome.
use Rattle.std.proofs.Common.{◌≡◌, Bool, true, cond, ◌||◌, List, [], ◌∷◌, ◌++◌, Some, None, Option, refl, ap, sym, ◌∙◌, subst, inl, inr}
use Rattle.pp_algebra.specs.Rows.{Row, IsCanonical, pattern_of}
use Rattle.pp_algebra.specs.Covers.{IsIn, RowCovers}
use Rattle.pp_algebra.specs.Canon.{same_row}
use Rattle.pp_algebra.specs.Least.{least_row, least_list}
use Rattle.pp_algebra.proofs.Order.{covers_itself}
use Rattle.pp_algebra.proofs.Antisym.{covers_antisymmetric}
use Rattle.pp_algebra.proofs.Law.{least_row-IsCanonical, least_row-covers, least_row-least}
use Rattle.pp_algebra.proofs.SameRow.{same_row-sound, same_row-itself}
use Rattle.pp_sld.specs.Verdicts.{Mode, most, unique, consistent, same, unfinished, narrow, some_row, verdict_most}
use Rattle.pp_sld.specs.Findings.{Sole, no_row, two_rows, one_row, finds_most, finds_unique, join_sole, sole_of, finding, join_option, join_finding, outcome, settled}

-- a canonical row joined with what it covers is itself
join_covered : (r q : Row) → IsCanonical r → RowCovers r q → least_row r (q ∷ []) ≡ r
join_covered r q c h = covers_antisymmetric (least_row r (q ∷ [])) r (least_row-IsCanonical r (q ∷ [])) c
    (least_row-covers r (q ∷ []) r (inl refl) refl)
    (least_row-least r (q ∷ []) r (λ p i. elim i [ inl e ↦ subst (RowCovers r) e (covers_itself (pattern_of r)) | inr k ↦ elim k [ inl e ↦ subst (RowCovers r) e h | inr f ↦ absurd f ] ]))

-- the call's join with rows that it covers
join_call : (call : Row) (B : List Row) → IsCanonical call → ((q : Row) → IsIn q B → RowCovers call q) → join_option (Some call) (least_list B) ≡ Some call
join_call call [] c h = refl
join_call call (b ∷ B) c h = ap Some (join_covered call (least_row b B) c (least_row-least b B call h))

-- with a general part that is there, the outcome of the call is `same`
is_same : (call h : Row) → verdict_most call (Some call) (Some h) ≡ same
is_same call h = ap (λ b. cond b same (cond (same_row call h) (narrow call) unfinished)) (same_row-itself call)

abbrev Stays : Row → Mode → List Row → List Row → List Row → List Row → Type 0
Stays call m A C B D =
    (settled call (join_finding (finding m A C) (finding m B D)) ≡ true)
    × (outcome call (join_finding (finding m A C) (finding m B D)) ≡ outcome call (finding m A C))

join_some : (h : Row) (o : Option Row) → (k : Row) × (join_option (Some h) o ≡ Some k)
join_some h None = (h, refl)
join_some h (Some q) = (least_row h (q ∷ []), refl)

stays_most : (call a : Row) (A C B D : List Row) → least_row a A ≡ call → ((q : Row) → IsIn q B → RowCovers call q) → Stays call most (a ∷ A) C B D
stays_most call a A C B D e h =
    let c : IsCanonical call = subst IsCanonical e (least_row-IsCanonical a A) in
    let g : join_option (Some (least_row a A)) (least_list B) ≡ Some call = ap (λ x. join_option (Some x) (least_list B)) e ∙ join_call call B c h in
    let o = join_some (least_row a (A ++ C)) (least_list (B ++ D)) in (
      ap (λ x. settled call (finds_most x (join_option (Some (least_row a (A ++ C))) (least_list (B ++ D))))) g ∙ same_row-itself call,
      ap (λ x. verdict_most call x (join_option (Some (least_row a (A ++ C))) (least_list (B ++ D)))) g ∙ ap (verdict_most call (Some call)) o.1 ∙ is_same call o.0
          ∙ sym (ap (λ x. verdict_most call (Some x) (Some (least_row a (A ++ C)))) e ∙ is_same call (least_row a (A ++ C))),
    )

stays_unique : (call : Row) (s t : Sole) (b c : Bool) → settled call (finds_unique s b) ≡ true
    → (settled call (finds_unique (join_sole s t) (b || c)) ≡ true) × (outcome call (finds_unique (join_sole s t) (b || c)) ≡ outcome call (finds_unique s b))
stays_unique call no_row t b c h = absurd (cc)
stays_unique call two_rows t b c h = (refl, refl)
stays_unique call (one_row r) t b c h = absurd (cc)

pub settled_stays : (call : Row) (m : Mode) (A C B D : List Row) → ((q : Row) → IsIn q B → RowCovers call q) → settled call (finding m A C) ≡ true → Stays call m A C B D
settled_stays call most [] C B D h s = absurd (cc)
settled_stays call most (a ∷ A) C B D h s = stays_most call a A C B D (same_row-sound (least_row a A) call s) h
settled_stays call unique A C B D h s = stays_unique call (sole_of A) (sole_of B) (some_row C) (some_row D) s
settled_stays call consistent [] C B D h s = absurd (cc)
settled_stays call consistent (a ∷ A) C B D h s = (refl, refl)
