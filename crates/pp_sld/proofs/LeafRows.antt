-- The leaves of a tree, and their rows.
use Rattle.std.proofs.Common.{◌≡◌, List, [], ◌∷◌, ◌++◌, refl, ap, subst, inl, inr}
use Rattle.pp_algebra.specs.Rows.{Row}
use Rattle.pp_algebra.specs.Covers.{IsIn}
use Rattle.pp_algebra.proofs.Antisym.{IsIn-either}
use Rattle.pp_sld.specs.Trees.{Search, Searches}
use Rattle.pp_sld.specs.Trace.{Leaf, answers_with, loose_with, Mark, tried, ends, trace, trace_all, met, leaves, leaves_all}
use Rattle.pp_sld.specs.Leaves.{leaf_row, row_at, answer_rows, loose_rows}

pub met-append : (ms ns : List Mark) → met (ms ++ ns) ≡ met ms ++ met ns
met-append [] ns = refl
met-append (tried ∷ ms) ns = met-append ms ns
met-append (ends l ∷ ms) ns = ap (λ x. l ∷ x) (met-append ms ns)

-- the leaves of a child, and then those of the children behind it
pub leaves-child : (t : Search) (ts : Searches) → met (trace t ++ trace_all ts) ≡ leaves t ++ leaves_all ts
leaves-child t ts = met-append (trace t) (trace_all ts)

pub answer_rows-append : (xs ys : List Leaf) → answer_rows (xs ++ ys) ≡ answer_rows xs ++ answer_rows ys
answer_rows-append [] ys = refl
answer_rows-append (answers_with c ∷ xs) ys = ap (λ z. leaf_row c ∷ z) (answer_rows-append xs ys)
answer_rows-append (loose_with c ∷ xs) ys = answer_rows-append xs ys

pub loose_rows-append : (xs ys : List Leaf) → loose_rows (xs ++ ys) ≡ loose_rows xs ++ loose_rows ys
loose_rows-append [] ys = refl
loose_rows-append (answers_with c ∷ xs) ys = loose_rows-append xs ys
loose_rows-append (loose_with c ∷ xs) ys = ap (λ z. leaf_row c ∷ z) (loose_rows-append xs ys)

-- what holds of each leaf's row holds of the rows
module _ (P : Row → Type 0) where
  abbrev pub EachLeaf : List Leaf → Type 0
  EachLeaf ls = (x : Leaf) → IsIn x ls → P (row_at x)

  abbrev pub EachRow : List Row → Type 0
  EachRow rs = (r : Row) → IsIn r rs → P r

  pub each-answer : (ls : List Leaf) → EachLeaf ls → EachRow (answer_rows ls)
  each-answer [] h r i = absurd i
  each-answer (answers_with c ∷ ls) h r (inl e) = subst P e (h (answers_with c) (inl refl))
  each-answer (answers_with c ∷ ls) h r (inr i) = each-answer ls (λ x j. h x (inr j)) r i
  each-answer (loose_with c ∷ ls) h r i = each-answer ls (λ x j. h x (inr j)) r i

  pub each-loose : (ls : List Leaf) → EachLeaf ls → EachRow (loose_rows ls)
  each-loose [] h r i = absurd i
  each-loose (answers_with c ∷ ls) h r i = each-loose ls (λ x j. h x (inr j)) r i
  each-loose (loose_with c ∷ ls) h r (inl e) = subst P e (h (loose_with c) (inl refl))
  each-loose (loose_with c ∷ ls) h r (inr i) = each-loose ls (λ x j. h x (inr j)) r i

  pub each-both : (A C : List Row) → EachRow A → EachRow C → EachRow (A ++ C)
  each-both A C h k r i = elim (IsIn-either r A C i) [ inl j ↦ h r j | inr j ↦ k r j ]

  pub each-row : (ls : List Leaf) → EachLeaf ls → EachRow (answer_rows ls ++ loose_rows ls)
  each-row ls h = each-both (answer_rows ls) (loose_rows ls) (each-answer ls h) (each-loose ls h)

  pub each-leaf-answer : (ls : List Leaf) → EachRow (answer_rows ls) → EachRow (loose_rows ls) → EachLeaf ls
  each-leaf-answer [] h k x i = absurd i
  each-leaf-answer (answers_with c ∷ ls) h k x (inl e) = subst (λ y. P (row_at y)) e (h (leaf_row c) (inl refl))
  each-leaf-answer (answers_with c ∷ ls) h k x (inr i) = each-leaf-answer ls (λ r j. h r (inr j)) k x i
  each-leaf-answer (loose_with c ∷ ls) h k x (inl e) = subst (λ y. P (row_at y)) e (k (leaf_row c) (inl refl))
  each-leaf-answer (loose_with c ∷ ls) h k x (inr i) = each-leaf-answer ls h (λ r j. k r (inr j)) x i

  pub each-child : (t : Search) (ts : Searches) → EachLeaf (leaves t) → EachLeaf (leaves_all ts) → EachLeaf (met (trace t ++ trace_all ts))
  each-child t ts h k x i = elim (IsIn-either x (leaves t) (leaves_all ts) (subst (IsIn x) (leaves-child t ts) i)) [ inl j ↦ h x j | inr j ↦ k x j ]
