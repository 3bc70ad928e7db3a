-- A configuration's columns cover the leaves of its tree.
use Rattle.std.proofs.Common.{◌≡◌, ℕ, zero, suc, ◌+◌, List, [], ◌∷◌, length, refl, ap, sym, ◌∙◌, subst, inl, inr, arith}
use Rattle.std.specs.Prelude.{nat_eq}
use Rattle.pp_algebra.specs.Terms.{count, variables_all}
use Rattle.pp_algebra.specs.Rows.{Row, IsCanonical, IsNumbered, pattern_of}
use Rattle.pp_algebra.specs.Covers.{Covers, RowCovers}
use Rattle.pp_algebra.proofs.Order.{covers_through}
use Rattle.pp_algebra.proofs.CanonLemmas.{nat_eq-IsSame, canon-IsCanonical, canon-covers, covers-canon}
use Rattle.pp_algebra.proofs.Law.{count-covers}
use Rattle.pp_sld.specs.Goals.{Program, Config}
use Rattle.pp_sld.specs.Ways.{Way}
use Rattle.pp_sld.specs.Trees.{Search, answer, loose, refused, passed, choice, Searches, no_more, child, failed, IsSearch, AreSearches}
use Rattle.pp_sld.specs.Trace.{Leaf, answers_with, loose_with, leaves, leaves_all}
use Rattle.pp_sld.specs.Leaves.{root, leaf_row, row_at}
use Rattle.pp_algebra.specs.Numbered.{variables_from, call}
use Rattle.pp_sld.specs.Laws.{LeafRowCovers, CallCoversLeaves, LeavesHaveWidth}
use Rattle.pp_sld.proofs.LeafRows.{EachLeaf, each-row, each-child}
use Rattle.pp_sld.proofs.Covered.{columns_of, leads-covers, AllOf as AllOfConfig, NextOf, next-of}
use Rattle.pp_algebra.proofs.Numbered.{from_numbered, count-from}

pub columns-cover : (c : Config) → Covers (columns_of c) (pattern_of (leaf_row c))
unfolding leaf_row
columns-cover c = covers-canon nat_eq nat_eq-IsSame (columns_of c)

pub leaf-covers : (c : Config) → Covers (pattern_of (leaf_row c)) (columns_of c)
unfolding leaf_row
leaf-covers c = canon-covers nat_eq nat_eq-IsSame (columns_of c)

leaf-IsCanonical : (c : Config) → IsCanonical (leaf_row c)
unfolding leaf_row
leaf-IsCanonical c = canon-IsCanonical nat_eq nat_eq-IsSame (columns_of c)

-- the configuration's columns cover the row, which is canonical
abbrev pub IsBelow : Config → Row → Type 0
IsBelow c r = Covers (columns_of c) (pattern_of r) × IsCanonical r

abbrev pub AllBelow : Config → List Leaf → Type 0
AllBelow c ls = EachLeaf (IsBelow c) ls

below-itself : (c : Config) → IsBelow c (leaf_row c)
below-itself c = (columns-cover c, leaf-IsCanonical c)

answer-below : (c d : Config) → c ≡ d → AllBelow c (answers_with d ∷ [])
answer-below c d e x (inl i) = subst (λ y. IsBelow c (row_at y)) i (subst (λ y. IsBelow c (leaf_row y)) e (below-itself c))
answer-below c d e x (inr f) = absurd f

loose-below : (c d : Config) → c ≡ d → AllBelow c (loose_with d ∷ [])
loose-below c d e x (inl i) = subst (λ y. IsBelow c (row_at y)) i (subst (λ y. IsBelow c (leaf_row y)) e (below-itself c))
loose-below c d e x (inr f) = absurd f

below-through : (c d : Config) (ls : List Leaf) → Covers (columns_of c) (columns_of d) → AllBelow d ls → AllBelow c ls
below-through c d ls a h x i = let k = h x i in (covers_through (columns_of c) (columns_of d) (pattern_of (row_at x)) a k.0, k.1)

module _ (clauses : Program) where
  mutual
    pub all_below : (t : Search) (c : Config) → IsSearch clauses c t → AllBelow c (leaves t)
    all_below (answer d) c h = answer-below c d h.1
    all_below (loose d) c h = loose-below c d h.1
    all_below refused c h = λ x i. absurd i
    all_below (passed t) c h = below-through c h.2 (leaves t) (leads-covers c h.0 h.2 (subst (NextOf c) h.1 (next-of clauses c)) h.3) (all_below t h.2 h.4)
    all_below (choice ts) c h = each_below ts c h.0 (subst (NextOf c) h.1 (next-of clauses c)) h.2

    pub each_below : (ts : Searches) (c : Config) (ws : List Way) → AllOfConfig c ws → AreSearches clauses ws ts → AllBelow c (leaves_all ts)
    each_below no_more c ws o h = λ x i. absurd i
    each_below (child t ts) c ws o h =
        let p : AllOfConfig c (h.0 ∷ h.1) = subst (AllOfConfig c) h.2 o in
        each-child (IsBelow c) t ts (below-through c h.3 (leaves t) (leads-covers c h.0 h.3 p.0 h.4) (all_below t h.3 h.5)) (each_below ts c h.1 p.1 h.6)
    each_below (failed ts) c ws o h = let p : AllOfConfig c (h.0 ∷ h.1) = subst (AllOfConfig c) h.2 o in each_below ts c h.1 p.1 h.4

-- the call is a canonical row of as many columns as variables

pub call-IsCanonical : (face : Row) → IsCanonical (call face)
call-IsCanonical face = from_numbered 0 (length face.domains) (length face.domains) (omega arith)

-- the row of a configuration covers the leaves below it
pub row_below : (c : Config) (r : Row) → IsBelow c r → RowCovers (leaf_row c) r
row_below c r h = covers_through (pattern_of (leaf_row c)) (columns_of c) (pattern_of r) (leaf-covers c) h.0

pub leaf_row_covers : LeafRowCovers
leaf_row_covers clauses c t h r i = let k = each-row (IsBelow c) (leaves t) (all_below clauses t c h) r i in (row_below c r k, k.1)

pub leaves_under_call : CallCoversLeaves
leaves_under_call clauses shape face depth t h r i = let c = root shape face depth in each-row (IsBelow c) (leaves t) (all_below clauses t c h) r i

pub leaves_of_width : LeavesHaveWidth
leaves_of_width clauses shape face depth t h r i =
    let k = leaves_under_call clauses shape face depth t h r i in
    (k.1, sym (count-covers (call face) r k.0) ∙ count-from 0 (length face.domains))
