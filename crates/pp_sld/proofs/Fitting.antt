-- Findings that fit: those of rows and leaves under the call, and what they already know.
use Rattle.std.proofs.Common.{◌≡◌, Bool, true, false, List, [], ◌∷◌, ◌++◌, Option, Some, None, refl, ap, sym, ◌∙◌, inl, inr, pos}
use Rattle.pp_algebra.specs.Terms.{count, int, none, more}
use Rattle.pp_algebra.specs.Rows.{Row, pattern_of}
use Rattle.pp_algebra.specs.Covers.{IsIn, RowCovers}
use Rattle.pp_algebra.specs.Joins.{AllOf}
use Rattle.pp_algebra.specs.Least.{least_row, least_list}
use Rattle.pp_algebra.proofs.Order.{covers_itself, IsIn-left, IsIn-right}
use Rattle.pp_algebra.proofs.Antisym.{covers_antisymmetric}
use Rattle.pp_algebra.proofs.Law.{least_row-IsCanonical, least_row-least, count-covers}
use Rattle.pp_algebra.proofs.Sets.{least_of_more, least_of_one}
use Rattle.pp_sld.specs.Trace.{Leaf, leaves}
use Rattle.pp_sld.specs.Leaves.{leaf_row, answer_rows, loose_rows}
use Rattle.pp_sld.specs.Verdicts.{most, unique, consistent, some_row}
use Rattle.pp_sld.specs.Findings.{Sole, no_row, two_rows, one_row, finds_most, finds_unique, finds_consistent, sole_of, finding, join_option}
use Rattle.pp_sld.specs.Lattice.{IsUnder, RowsUnder, LeavesUnder, UnderIfSome, CoversIfSome, UnderIfOne, Fits}
use Rattle.pp_sld.specs.LawsOfFindings.{FindingFits, LeavesFit, LeavesJoin, FittingIsFound, CoveredAddsNothing, SubtreeAddsNothing}
use Rattle.pp_sld.proofs.LeafRows.{answer_rows-append, loose_rows-append, each-answer, each-loose, each-both}
use Rattle.pp_sld.proofs.CallCovers.{leaf_row_covers}
use Rattle.pp_sld.proofs.Verdicts.{finding_join}
use Rattle.pp_sld.proofs.Joining.{covers-two, right-covered, through, sole-under}
use Rattle.pp_algebra.specs.Numbered.{no_columns}

pub under-left : (c : Row) (xs ys : List Leaf) → LeavesUnder c (xs ++ ys) → LeavesUnder c xs
under-left c xs ys h x i = h x (IsIn-left x xs ys i)

pub under-right : (c : Row) (xs ys : List Leaf) → LeavesUnder c (xs ++ ys) → LeavesUnder c ys
under-right c xs ys h x i = h x (IsIn-right x xs ys i)

answers-under : (c : Row) (ls : List Leaf) → LeavesUnder c ls → RowsUnder c (answer_rows ls)
answers-under c ls h = each-answer (IsUnder c) ls h

loose-under : (c : Row) (ls : List Leaf) → LeavesUnder c ls → RowsUnder c (loose_rows ls)
loose-under c ls h = each-loose (IsUnder c) ls h

rows-both : (c : Row) (A B : List Row) → RowsUnder c A → RowsUnder c B → RowsUnder c (A ++ B)
rows-both c A B h k = each-both (IsUnder c) A B h k

rows-width : (c : Row) (A : List Row) → RowsUnder c A → AllOf (count c.columns) A
rows-width c A h r i = ((h r i).1, sym (count-covers c r (h r i).0))

list-under : (c : Row) (A : List Row) → RowsUnder c A → UnderIfSome c (least_list A)
list-under c [] h = tt
list-under c (a ∷ A) h = (least_row-least a A c (λ q i. (h q i).0), least_row-IsCanonical a A)

list-covers : (c : Row) (A C : List Row) → RowsUnder c A → CoversIfSome (least_list (A ++ C)) (least_list A)
list-covers c [] C h = tt
list-covers c (a ∷ A) C h = least_of_more a A C (λ q i. let w = rows-width c (a ∷ A) h in (w q i).1 ∙ sym (w a (inl refl)).1)

sole-of-under : (c : Row) (A : List Row) → RowsUnder c A → UnderIfOne c (sole_of A)
sole-of-under c [] h = tt
sole-of-under c (a ∷ A) h = sole-under c (one_row a) (sole_of A) (h a (inl refl)) (sole-of-under c A (λ r i. h r (inr i)))

pub finding_fits : FindingFits
finding_fits most c A C h k = (list-under c A h, list-under c (A ++ C) (rows-both c A C h k), list-covers c A C h)
finding_fits unique c A C h k = sole-of-under c A h
finding_fits consistent c A C h k = tt

-- the finding of leaves under the call fits
pub leaves_fit : LeavesFit
leaves_fit m c ls h = finding_fits m c (answer_rows ls) (loose_rows ls) (answers-under c ls h) (loose-under c ls h)

-- the finding of two parts is the join of their findings
pub leaves_join : LeavesJoin
leaves_join m c xs ys h =
    let hx = under-left c xs ys h in
    let hy = under-right c xs ys h in
    let A = answer_rows xs in
    let B = answer_rows ys in
    let C = loose_rows xs in
    let D = loose_rows ys in
    ap (λ z. finding m z (loose_rows (xs ++ ys))) (answer_rows-append xs ys) ∙ ap (finding m (A ++ B)) (loose_rows-append xs ys)
    ∙ sym (finding_join m (count c.columns) A B C D (rows-width c ((A ++ C) ++ (B ++ D)) (rows-both c (A ++ C) (B ++ D)
    (rows-both c A C (answers-under c xs hx) (loose-under c xs hx))
    (rows-both c B D (answers-under c ys hy) (loose-under c ys hy)))))

-- ===== a finding that fits is that of some rows

abbrev one_column : Row
one_column = record { columns = more (int (pos 0)) none; domains = [] }

abbrev rows_if : Bool → List Row
rows_if true = no_columns ∷ []
rows_if false = []

-- a row joined with one that covers it
covered_joins : (c g h : Row) → IsUnder c g → IsUnder c h → RowCovers h g → least_row g (h ∷ []) ≡ h
covered_joins c g h ug uh k = covers_antisymmetric (least_row g (h ∷ [])) h (least_row-IsCanonical g (h ∷ [])) uh.1 (right-covered c g h ug uh) (covers-two h g h k (covers_itself (pattern_of h)))

found_most : (c : Row) (g h : Option Row) → Fits most c (finds_most g h) → (A C : List Row) × (finding most A C ≡ finds_most g h)
found_most c None None f = ([], [], refl)
found_most c None (Some h) f = ([], h ∷ [], ap (λ x. finds_most None (Some x)) (least_of_one h f.1.1))
found_most c (Some g) None f = absurd f.2
found_most c (Some g) (Some h) f = (g ∷ [], h ∷ [], ap (λ x. finds_most (Some x) (Some (least_row g (h ∷ [])))) (least_of_one g f.0.1) ∙ ap (λ x. finds_most (Some g) (Some x)) (covered_joins c g h f.0 f.1 f.2))

some_if : (b : Bool) → some_row (rows_if b) ≡ b
some_if true = refl
some_if false = refl

found_unique : (s : Sole) (b : Bool) → (A C : List Row) × (finding unique A C ≡ finds_unique s b)
found_unique no_row b = ([], rows_if b, ap (finds_unique no_row) (some_if b))
found_unique two_rows b = (no_columns ∷ one_column ∷ [], rows_if b, ap (finds_unique two_rows) (some_if b))
found_unique (one_row r) b = (r ∷ [], rows_if b, ap (finds_unique (one_row r)) (some_if b))

pub fitting_is_found : FittingIsFound
fitting_is_found most c (finds_most g h) f = found_most c g h f
fitting_is_found most c (finds_unique s b) f = absurd f
fitting_is_found most c (finds_consistent a b) f = absurd f
fitting_is_found unique c (finds_unique s b) f = found_unique s b
fitting_is_found unique c (finds_most g h) f = absurd f
fitting_is_found unique c (finds_consistent a b) f = absurd f
fitting_is_found consistent c (finds_consistent a b) f = (rows_if a, rows_if b, ap (λ x. finds_consistent x (some_row (rows_if b))) (some_if a) ∙ ap (finds_consistent a) (some_if b))
fitting_is_found consistent c (finds_most g h) f = absurd f
fitting_is_found consistent c (finds_unique s b) f = absurd f

-- ===== what is known adds nothing

-- a row takes in the rows that it covers
takes-in : (c : Row) (A : List Row) (G : Row) → RowsUnder c A → IsUnder c G → ((q : Row) → IsIn q A → RowCovers G q) → join_option (least_list A) (Some G) ≡ Some G
takes-in c [] G h g k = refl
takes-in c (a ∷ A) G h g k =
    let l = least_row a A in
    ap Some (covered_joins c l G (least_row-least a A c (λ q i. (h q i).0), least_row-IsCanonical a A) g (least_row-least a A G k))

pub covered_adds_nothing : CoveredAddsNothing
covered_adds_nothing c G None A C f u k = absurd f.2
covered_adds_nothing c G (Some H) A C f u k =
    ap (λ x. finds_most x (join_option (least_list (A ++ C)) (Some H))) (takes-in c A G (λ q i. u q (IsIn-left q A C i)) f.0 (λ q i. k q (IsIn-left q A C i)))
    ∙ ap (finds_most (Some G)) (takes-in c (A ++ C) H u f.1 (λ q i. through H G q f.2 (k q i)))

pub subtree_adds_nothing : SubtreeAddsNothing
subtree_adds_nothing clauses c t call G h is f g k =
    let b = leaf_row_covers clauses c t is in
    covered_adds_nothing call G h (answer_rows (leaves t)) (loose_rows (leaves t)) f (λ r i. (through call (leaf_row c) r k (b r i).0, (b r i).1)) (λ r i. through G (leaf_row c) r g (b r i).0)
