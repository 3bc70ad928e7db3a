-- Findings joined in any order give the verdict of the whole lists.
use Rattle.std.proofs.Common.{◌≡◌, ℕ, Bool, true, false, cond, ◌||◌, List, [], ◌∷◌, ◌++◌, Some, refl, ap, sym, ◌∙◌, subst, ◌⊎◌, inl, inr, append-nil, append_assoc}
use Rattle.pp_algebra.specs.Rows.{Row}
use Rattle.pp_algebra.specs.Covers.{IsIn}
use Rattle.pp_algebra.specs.Least.{least_list}
use Rattle.pp_sld.specs.Verdicts.{Mode, most, unique, consistent, same, nothing, unfinished, narrow, some_row, another, verdict}
use Rattle.pp_sld.specs.LawsOfFindings.{FindingOfSame, AnswerIsAdded, LooseIsAdded}
use Rattle.pp_sld.specs.Findings.{Sole, no_row, two_rows, one_row, finds_most, finds_unique, finds_consistent, join_sole, sole_of, finding, join_option, join_finding, outcome, outcome_unique}
use Rattle.pp_algebra.proofs.Order.{IsIn-left, IsIn-right}
use Rattle.pp_algebra.proofs.Antisym.{IsIn-either}
use Rattle.pp_algebra.specs.Canon.{same_row}
use Rattle.pp_algebra.proofs.SameRow.{same_row-sound, same_row-itself}
use Rattle.pp_algebra.proofs.Sets.{least_of_same, least_in_parts}
use Rattle.pp_algebra.specs.Joins.{AllOf, AreOfWidth, SameRows}

as_wide : (n : ℕ) (r : Row) (rs : List Row) → AllOf n (r ∷ rs) → AreOfWidth (r ∷ rs) r
as_wide n r rs h q i = (h q i).1 ∙ sym (h r (inl refl)).1

pub least_list_same : (n : ℕ) (rs qs : List Row) → AllOf n rs → SameRows rs qs → least_list rs ≡ least_list qs
least_list_same n [] [] h s = refl
least_list_same n [] (q ∷ qs) h s = absurd (s.1 q (inl refl))
least_list_same n (r ∷ rs) [] h s = absurd (s.0 r (inl refl))
least_list_same n (r ∷ rs) (q ∷ qs) h s = ap Some (least_of_same r q rs qs (as_wide n r rs h) s)

pub least_list_join : (n : ℕ) (rs qs : List Row) → AllOf n (rs ++ qs) → join_option (least_list rs) (least_list qs) ≡ least_list (rs ++ qs)
least_list_join n [] qs h = refl
least_list_join n (r ∷ rs) [] h = ap least_list (sym (append-nil (r ∷ rs)))
least_list_join n (r ∷ rs) (q ∷ qs) h = ap Some (least_in_parts r q rs qs (as_wide n r (rs ++ q ∷ qs) h))

some-append : (rs qs : List Row) → (some_row rs || some_row qs) ≡ some_row (rs ++ qs)
some-append [] qs = refl
some-append (r ∷ rs) qs = refl

-- four lists in another order
cross : (A B C D : List Row) → SameRows ((A ++ C) ++ (B ++ D)) ((A ++ B) ++ (C ++ D))
cross A B C D = (
  (λ q i. elim (IsIn-either q (A ++ C) (B ++ D) i) [
    | inl j ↦ elim (IsIn-either q A C j) [ inl k ↦ IsIn-left q (A ++ B) (C ++ D) (IsIn-left q A B k) | inr k ↦ IsIn-right q (A ++ B) (C ++ D) (IsIn-left q C D k) ]
    | inr j ↦ elim (IsIn-either q B D j) [ inl k ↦ IsIn-left q (A ++ B) (C ++ D) (IsIn-right q A B k) | inr k ↦ IsIn-right q (A ++ B) (C ++ D) (IsIn-right q C D k) ]
  ]),
  (λ q i. elim (IsIn-either q (A ++ B) (C ++ D) i) [
    | inl j ↦ elim (IsIn-either q A B j) [ inl k ↦ IsIn-left q (A ++ C) (B ++ D) (IsIn-left q A C k) | inr k ↦ IsIn-right q (A ++ C) (B ++ D) (IsIn-left q B D k) ]
    | inr j ↦ elim (IsIn-either q C D j) [ inl k ↦ IsIn-left q (A ++ C) (B ++ D) (IsIn-right q A C k) | inr k ↦ IsIn-right q (A ++ C) (B ++ D) (IsIn-right q B D k) ]
  ]),
)

pub sole-two : (s : Sole) → join_sole s two_rows ≡ two_rows
sole-two no_row = refl
sole-two two_rows = refl
sole-two (one_row r) = refl

-- by whether the rows are equal
pub cases : (r q : Row) → (r ≡ q) ⊎ (same_row r q ≡ false)
cases r q = pick (same_row r q) refl
  where
    pick : (b : Bool) → same_row r q ≡ b → (r ≡ q) ⊎ (same_row r q ≡ false)
    pick true e = inl (same_row-sound r q e)
    pick false e = inr e

pub one-same : (r : Row) → join_sole (one_row r) (one_row r) ≡ one_row r
one-same r = ap (λ b. cond b (one_row r) two_rows) (same_row-itself r)

pub one-differ : (r q : Row) → same_row r q ≡ false → join_sole (one_row r) (one_row q) ≡ two_rows
one-differ r q f = ap (λ b. cond b (one_row r) two_rows) f

pub again : (r : Row) (s : Sole) → join_sole (one_row r) (join_sole (one_row r) s) ≡ join_sole (one_row r) s
again r no_row = one-same r
again r two_rows = refl
again r (one_row p) = elim (cases r p) [
  | inl e ↦ subst (λ x. join_sole (one_row r) (join_sole (one_row r) (one_row x)) ≡ join_sole (one_row r) (one_row x)) e (ap (join_sole (one_row r)) (one-same r))
  | inr f ↦ ap (join_sole (one_row r)) (one-differ r p f) ∙ sym (one-differ r p f)
]

pub apart : (r q : Row) (s : Sole) → same_row r q ≡ false → join_sole (one_row r) (join_sole (one_row q) s) ≡ two_rows
apart r q no_row f = one-differ r q f
apart r q two_rows f = refl
apart r q (one_row p) f = elim (cases q p) [
  | inl e ↦ subst (λ x. join_sole (one_row r) (join_sole (one_row q) (one_row x)) ≡ two_rows) e (ap (join_sole (one_row r)) (one-same q) ∙ one-differ r q f)
  | inr k ↦ ap (join_sole (one_row r)) (one-differ q p k)
]

sole-one : (r q : Row) (s : Sole) → join_sole (join_sole (one_row r) (one_row q)) s ≡ join_sole (one_row r) (join_sole (one_row q) s)
sole-one r q s = elim (cases r q) [
  | inl e ↦ subst (λ x. join_sole (join_sole (one_row r) (one_row x)) s ≡ join_sole (one_row r) (join_sole (one_row x) s)) e (ap (λ x. join_sole x s) (one-same r) ∙ sym (again r s))
  | inr f ↦ ap (λ x. join_sole x s) (one-differ r q f) ∙ sym (apart r q s f)
]

pub sole-assoc : (s t u : Sole) → join_sole (join_sole s t) u ≡ join_sole s (join_sole t u)
sole-assoc no_row t u = refl
sole-assoc two_rows t u = refl
sole-assoc (one_row r) no_row u = refl
sole-assoc (one_row r) two_rows u = refl
sole-assoc (one_row r) (one_row q) u = sole-one r q u

sole-append : (rs qs : List Row) → join_sole (sole_of rs) (sole_of qs) ≡ sole_of (rs ++ qs)
sole-append [] qs = refl
sole-append (r ∷ rs) qs = sole-assoc (one_row r) (sole_of rs) (sole_of qs) ∙ ap (join_sole (one_row r)) (sole-append rs qs)

-- the finding of two parts together
pub finding_join : (m : Mode) (n : ℕ) (A B C D : List Row) → AllOf n ((A ++ C) ++ (B ++ D)) → join_finding (finding m A C) (finding m B D) ≡ finding m (A ++ B) (C ++ D)
finding_join most n A B C D h =
    let ab = λ (q : Row) (i : IsIn q (A ++ B)). h q ((cross A B C D).1 q (IsIn-left q (A ++ B) (C ++ D) i)) in
    ap (λ x. finds_most x (join_option (least_list (A ++ C)) (least_list (B ++ D)))) (least_list_join n A B ab)
    ∙ ap (finds_most (least_list (A ++ B))) (least_list_join n (A ++ C) (B ++ D) h ∙ least_list_same n ((A ++ C) ++ (B ++ D)) ((A ++ B) ++ (C ++ D)) h (cross A B C D))
finding_join unique n A B C D h = ap (λ x. finds_unique x (some_row C || some_row D)) (sole-append A B) ∙ ap (finds_unique (sole_of (A ++ B))) (some-append C D)
finding_join consistent n A B C D h = ap (λ x. finds_consistent x (some_row C || some_row D)) (some-append A B) ∙ ap (finds_consistent (some_row (A ++ B))) (some-append C D)

another-sole : (a : Row) (A : List Row) → sole_of (a ∷ A) ≡ cond (another a A) two_rows (one_row a)
another-sole a [] = refl
another-sole a (b ∷ A) = elim (cases a b) [
  | inl e ↦ subst (λ x. sole_of (a ∷ (x ∷ A)) ≡ cond (another a (x ∷ A)) two_rows (one_row a)) e (again a (sole_of A) ∙ another-sole a A ∙ ap (λ b'. cond (cond b' (another a A) true) two_rows (one_row a)) (sym (same_row-itself a)))
  | inr f ↦ apart a b (sole_of A) f ∙ ap (λ b'. cond (cond b' (another a A) true) two_rows (one_row a)) (sym f)
]

by_cases : (call a : Row) (x y : Bool) → outcome_unique call (cond x two_rows (one_row a)) y ≡ cond x nothing (cond y unfinished (cond (same_row a call) same (narrow a)))
by_cases call a true y = refl
by_cases call a false true = refl
by_cases call a false false = refl

-- the outcome of the finding is the verdict
pub outcome_is : (m : Mode) (call : Row) (A C : List Row) → outcome call (finding m A C) ≡ verdict m call A C
outcome_is most call A C = refl
outcome_is unique call [] [] = refl
outcome_is unique call [] (c ∷ C) = refl
outcome_is unique call (a ∷ A) C = ap (λ x. outcome_unique call x (some_row C)) (another-sole a A) ∙ by_cases call a (another a A) (some_row C)
outcome_is consistent call [] [] = refl
outcome_is consistent call [] (c ∷ C) = refl
outcome_is consistent call (a ∷ A) C = refl

-- what stands in the rest of the list, and nothing else than r
pub another-none : (r : Row) (qs : List Row) → another r qs ≡ false → (q : Row) → IsIn q qs → q ≡ r
another-none r [] e q i = absurd i
another-none r (x ∷ qs) e q i = go (same_row r x) refl e i (λ f. another-none r qs f q)
  where
    go : (b : Bool) → same_row r x ≡ b → cond b (another r qs) true ≡ false → IsIn q (x ∷ qs) → (another r qs ≡ false → IsIn q qs → q ≡ r) → q ≡ r
    go true f e (inl g) h = sym g ∙ sym (same_row-sound r x f)
    go true f e (inr j) h = h e j
    go false f e i h = absurd (cc e)

pub none-another : (r : Row) (qs : List Row) → ((q : Row) → IsIn q qs → q ≡ r) → another r qs ≡ false
none-another r [] h = refl
none-another r (x ∷ qs) h =
    ap (λ z. cond (same_row r z) (another r qs) true) (h x (inl refl)) ∙ ap (λ b. cond b (another r qs) true) (same_row-itself r) ∙ none-another r qs (λ q i. h q (inr i))

-- ===== order and repeats

same-some : (rs qs : List Row) → SameRows rs qs → some_row rs ≡ some_row qs
same-some [] [] s = refl
same-some [] (q ∷ qs) s = absurd (s.1 q (inl refl))
same-some (r ∷ rs) [] s = absurd (s.0 r (inl refl))
same-some (r ∷ rs) (q ∷ qs) s = refl

-- where no other row stands in the one list, none stands in the other
all-one : (a b : Row) (A B : List Row) → SameRows (a ∷ A) (b ∷ B) → another a A ≡ false → (b ≡ a) × (another b B ≡ false)
all-one a b A B s e =
    let one : (q : Row) → IsIn q (a ∷ A) → q ≡ a = λ q i. elim i [ inl f ↦ sym f | inr j ↦ another-none a A e q j ] in
    let is : b ≡ a = one b (s.1 b (inl refl)) in
    (is, none-another b B (λ q i. one q (s.1 q (inr i)) ∙ sym is))

same-sole : (A B : List Row) → SameRows A B → sole_of A ≡ sole_of B
same-sole [] [] s = refl
same-sole [] (b ∷ B) s = absurd (s.1 b (inl refl))
same-sole (a ∷ A) [] s = absurd (s.0 a (inl refl))
same-sole (a ∷ A) (b ∷ B) s = another-sole a A ∙ pick (another a A) (another b B) refl refl ∙ sym (another-sole b B)
  where
    pick : (x y : Bool) → another a A ≡ x → another b B ≡ y → cond x two_rows (one_row a) ≡ cond y two_rows (one_row b)
    pick true true e f = refl
    pick true false e f = let h : (a ≡ b) × (another a A ≡ false) = all-one b a B A (s.1, s.0) f in absurd (cc (e, h.1))
    pick false true e f = let h = all-one a b A B s e in absurd (cc (f, h.1))
    pick false false e f = let h = all-one a b A B s e in ap one_row (sym h.0)

same-both : (A B C D : List Row) → SameRows A B → SameRows C D → SameRows (A ++ C) (B ++ D)
same-both A B C D s t = (
  (λ q i. elim (IsIn-either q A C i) [ inl j ↦ IsIn-left q B D (s.0 q j) | inr j ↦ IsIn-right q B D (t.0 q j) ]),
  (λ q i. elim (IsIn-either q B D i) [ inl j ↦ IsIn-left q A C (s.1 q j) | inr j ↦ IsIn-right q A C (t.1 q j) ]),
)

pub finding_of_same : FindingOfSame
finding_of_same most n A B C D h s t =
    ap (λ x. finds_most x (least_list (A ++ C))) (least_list_same n A B (λ q i. h q (IsIn-left q A C i)) s)
    ∙ ap (finds_most (least_list B)) (least_list_same n (A ++ C) (B ++ D) h (same-both A B C D s t))
finding_of_same unique n A B C D h s t = ap (λ x. finds_unique x (some_row C)) (same-sole A B s) ∙ ap (finds_unique (sole_of B)) (same-some C D t)
finding_of_same consistent n A B C D h s t = ap (λ x. finds_consistent x (some_row C)) (same-some A B s) ∙ ap (finds_consistent (some_row B)) (same-some C D t)

-- ===== one row more

same-end : (A C : List Row) (r : Row) → SameRows ((A ++ C) ++ (r ∷ [])) ((A ++ r ∷ []) ++ C)
same-end A C r = (
  (λ q i. elim (IsIn-either q (A ++ C) (r ∷ []) i) [
    | inl j ↦ elim (IsIn-either q A C j) [ inl k ↦ IsIn-left q (A ++ r ∷ []) C (IsIn-left q A (r ∷ []) k) | inr k ↦ IsIn-right q (A ++ r ∷ []) C k ]
    | inr j ↦ IsIn-left q (A ++ r ∷ []) C (IsIn-right q A (r ∷ []) j)
  ]),
  (λ q i. elim (IsIn-either q (A ++ r ∷ []) C i) [
    | inl j ↦ elim (IsIn-either q A (r ∷ []) j) [ inl k ↦ IsIn-left q (A ++ C) (r ∷ []) (IsIn-left q A C k) | inr k ↦ IsIn-right q (A ++ C) (r ∷ []) k ]
    | inr j ↦ IsIn-left q (A ++ C) (r ∷ []) (IsIn-right q A C j)
  ]),
)

pub answer_is_added : AnswerIsAdded
answer_is_added m n A C r h =
    finding_join m n A (r ∷ []) C [] (λ q i. h q ((same-end A C r).0 q i)) ∙ ap (finding m (A ++ r ∷ [])) (append-nil C)

pub loose_is_added : LooseIsAdded
loose_is_added m n A C r h =
    finding_join m n A [] C (r ∷ []) (λ q i. h q (subst (IsIn q) (append_assoc A C (r ∷ [])) i)) ∙ ap (λ x. finding m x (C ++ r ∷ [])) (append-nil A)
