-- The least generalisation of rows, and the law of joins.
use Rattle.std.proofs.Common.{◌≡◌, ℕ, suc, ◌<◌, List, [], ◌∷◌, map, length, get_or, refl, ap, sym, ◌∙◌, subst, inl, inr, arith}
use Rattle.std.proofs.Math.ListN.{length-map}
use Rattle.pp_algebra.specs.Terms.{count}
use Rattle.pp_algebra.specs.Covers.{IsIn, Covers, RowCovers}
use Rattle.pp_algebra.specs.Rows.{Row, IsCanonical, pattern_of}
use Rattle.pp_algebra.specs.Least.{least}
use Rattle.pp_algebra.specs.Canon.{same_list}
use Rattle.pp_algebra.specs.Least.{least_row}
use Rattle.pp_algebra.specs.Rows.{Pattern}
use Rattle.pp_algebra.specs.Joins.{Joins, one, two, rows_of, joined, AllOf}
use Rattle.pp_algebra.specs.Solve.{Item, IsSolved}
use Rattle.pp_algebra.proofs.Put.{count-put_all}
use Rattle.pp_algebra.proofs.Order.{covers_itself, covers_through, IsIn-left, IsIn-right}
use Rattle.pp_algebra.proofs.LeastCovers.{nothing, least_covers_first, least_covers_other}
use Rattle.pp_algebra.proofs.LeastOfAll.{CoversAll, covers_least}
use Rattle.pp_algebra.proofs.Antisym.{covers_antisymmetric, IsIn-either}
use Rattle.pp_algebra.proofs.CanonLemmas.{same_list-IsSame, canon-IsCanonical, canon-covers, covers-canon}

pub least_row-IsCanonical : (r : Row) (rs : List Row) → IsCanonical (least_row r rs)
least_row-IsCanonical r rs = canon-IsCanonical same_list same_list-IsSame (least (pattern_of r) (map pattern_of rs))

find : (q : Row) (rs : List Row) → IsIn q rs → (i : ℕ) × (i < length rs) × (get_or (map pattern_of rs) i nothing ≡ pattern_of q)
find q [] h = absurd h
find q (r ∷ rs) (inl e) = (0, omega arith, ap pattern_of e)
find q (r ∷ rs) (inr h) = let f = find q rs h in (suc f.0, omega (arith, f.1), f.2)

pub least_row-covers : (r : Row) (rs : List Row) (q : Row) → IsIn q (r ∷ rs) → count q.columns ≡ count r.columns → RowCovers (least_row r rs) q
least_row-covers r rs q (inl e) n =
    covers_through _ _ _ (canon-covers same_list same_list-IsSame (least (pattern_of r) (map pattern_of rs))) (subst (λ x. Covers (least (pattern_of r) (map pattern_of rs)) (pattern_of x)) e (least_covers_first (pattern_of r) (map pattern_of rs)))
least_row-covers r rs q (inr h) n =
    let f = find q rs h in
    let other = least_covers_other (pattern_of r) (map pattern_of rs) f.0 (simp length-map f.1) (ap (λ p. count p.columns) f.2 ∙ n) in
    covers_through _ _ _ (canon-covers same_list same_list-IsSame (least (pattern_of r) (map pattern_of rs))) (subst (Covers (least (pattern_of r) (map pattern_of rs))) f.2 other)

covers_all : (s : Row) (rs : List Row) → ((q : Row) → IsIn q rs → RowCovers s q) → CoversAll (pattern_of s) (map pattern_of rs)
covers_all s [] h = tt
covers_all s (r ∷ rs) h = (h r (inl refl), covers_all s rs (λ q i. h q (inr i)))

pub least_row-least : (r : Row) (rs : List Row) (s : Row) → ((q : Row) → IsIn q (r ∷ rs) → RowCovers s q) → RowCovers s (least_row r rs)
least_row-least r rs s h = covers_through _ _ _ (covers_least (pattern_of s) (pattern_of r) (map pattern_of rs) (covers_all s (r ∷ rs) h)) (covers-canon same_list same_list-IsSame (least (pattern_of r) (map pattern_of rs)))

pub count-covers : (r q : Row) → RowCovers r q → count r.columns ≡ count q.columns
count-covers r q c = sym (count-put_all c.by r.columns) ∙ ap count c.columns

pub joined-least : (j : Joins) (s : Row) → ((q : Row) → IsIn q (rows_of j) → RowCovers s q) → RowCovers s (joined j)
joined-least (one r) s h = h r (inl refl)
joined-least (two a b) s h =
    let left = joined-least a s (λ q i. h q (IsIn-left q (rows_of a) (rows_of b) i)) in
    let right = joined-least b s (λ q i. h q (IsIn-right q (rows_of a) (rows_of b) i)) in
    least_row-least (joined a) (joined b ∷ []) s (λ q i. elim i [ inl e ↦ subst (RowCovers s) e left | inr k ↦ elim k [ inl e ↦ subst (RowCovers s) e right | inr f ↦ absurd f ] ])

pub joined-counts : (n : ℕ) (j : Joins) → AllOf n (rows_of j) → IsCanonical (joined j) × (count (joined j).columns ≡ n)
joined-counts n (one r) h = h r (inl refl)
joined-counts n (two a b) h =
    let left = joined-counts n a (λ q i. h q (IsIn-left q (rows_of a) (rows_of b) i)) in
    (least_row-IsCanonical (joined a) (joined b ∷ []), count-covers _ _ (least_row-covers (joined a) (joined b ∷ []) (joined a) (inl refl) refl) ∙ left.1)

pub joined-covers : (n : ℕ) (j : Joins) → AllOf n (rows_of j) → (q : Row) → IsIn q (rows_of j) → RowCovers (joined j) q
joined-covers n (one r) h q i = elim i [ inl e ↦ subst (RowCovers r) e (covers_itself (pattern_of r)) | inr f ↦ absurd f ]
joined-covers n (two a b) h q i =
    let ha = λ (p : Row) (k : IsIn p (rows_of a)). h p (IsIn-left p (rows_of a) (rows_of b) k) in
    let hb = λ (p : Row) (k : IsIn p (rows_of b)). h p (IsIn-right p (rows_of a) (rows_of b) k) in
    elim (IsIn-either q (rows_of a) (rows_of b) i) [
      | inl k ↦ covers_through _ _ _ (least_row-covers (joined a) (joined b ∷ []) (joined a) (inl refl) refl) (joined-covers n a ha q k)
      | inr k ↦ covers_through _ _ _ (least_row-covers (joined a) (joined b ∷ []) (joined b) (inr (inl refl)) ((joined-counts n b hb).1 ∙ sym (joined-counts n a ha).1)) (joined-covers n b hb q k)
    ]

-- joins in any order, any grouping and with repeats are the least generalisation of the whole list
pub joins_law : (n : ℕ) (r : Row) (rs : List Row) (j : Joins) → AllOf n (r ∷ rs) → ((q : Row) → IsIn q (r ∷ rs) → IsIn q (rows_of j)) → ((q : Row) → IsIn q (rows_of j) → IsIn q (r ∷ rs)) → joined j ≡ least_row r rs
joins_law n r rs j h to from =
    let hj = λ (q : Row) (i : IsIn q (rows_of j)). h q (from q i) in
    covers_antisymmetric (joined j) (least_row r rs) (joined-counts n j hj).0 (least_row-IsCanonical r rs)
    (least_row-least r rs (joined j) (λ q i. joined-covers n j hj q (to q i)))
    (joined-least j (least_row r rs) (λ q i. least_row-covers r rs q (from q i) ((h q (from q i)).1 ∙ sym (h r (inl refl)).1)))

-- a problem has at most one most general row
pub solved_once : {V : Type 0} (p : Pattern V) (items : List (Item V)) (r q : Row) → IsSolved p items r → IsSolved p items q → r ≡ q
solved_once p items r q h k = covers_antisymmetric r q h.row.canonical k.row.canonical (h.most q k.row k.meets) (k.most r h.row h.meets)
