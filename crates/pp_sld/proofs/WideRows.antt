-- The leaves of a configuration whose domains are wide are rows.
use Rattle.std.proofs.Common.{◌≡◌, ℕ, List, [], ◌∷◌, map, Option, subst, inl, inr}
use Rattle.std.specs.Prelude.{nat_eq}
use Rattle.std.proofs.lemmas.List.Elements.{All-nil, All-cons}
use Rattle.pp_algebra.specs.Terms.{variables_all}
use Rattle.pp_algebra.specs.Rows.{Domain, domain_at, IsWide, AreWide, IsRow}
use Rattle.pp_algebra.specs.Canon.{firsts}
use Rattle.pp_algebra.proofs.Resume.{wide_at}
use Rattle.pp_algebra.proofs.CanonLemmas.{nat_eq-IsSame, canon-IsCanonical}
use Rattle.pp_sld.specs.Goals.{Program, Config}
use Rattle.pp_sld.specs.Ways.{Way}
use Rattle.pp_sld.specs.Trees.{Search, answer, loose, refused, passed, choice, Searches, no_more, child, failed, IsSearch, AreSearches}
use Rattle.pp_sld.specs.Trace.{Leaf, answers_with, loose_with, leaves, leaves_all}
use Rattle.pp_sld.specs.Leaves.{leaf_row, row_at}
use Rattle.pp_sld.specs.Laws.{LeavesAreRows, CallIsRow}
use Rattle.pp_sld.proofs.LeafRows.{EachLeaf, each-row, each-child}
use Rattle.pp_sld.proofs.Covered.{columns_of}
use Rattle.pp_sld.proofs.CallCovers.{call-IsCanonical}

all_wide : (ds : List (Option Domain)) (vs : List ℕ) → AreWide ds → AreWide (map (domain_at ds) vs)
all_wide ds [] h = All-nil IsWide
all_wide ds (v ∷ vs) h = All-cons IsWide (domain_at ds v) (map (domain_at ds) vs) (wide_at ds v h) (all_wide ds vs h)

pub leaf-IsRow : (c : Config) → AreWide c.domains → IsRow (leaf_row c)
unfolding leaf_row
leaf-IsRow c h = record { canonical = canon-IsCanonical nat_eq nat_eq-IsSame (columns_of c); wide = all_wide c.domains (firsts nat_eq [] (variables_all c.columns)) h }

abbrev AllRows : List Leaf → Type 0
AllRows ls = EachLeaf (λ r. IsRow r) ls

one-answer : (c d : Config) → AreWide c.domains → c ≡ d → AllRows (answers_with d ∷ [])
one-answer c d h e x (inl i) = subst (λ y. IsRow (row_at y)) i (subst (λ y. IsRow (leaf_row y)) e (leaf-IsRow c h))
one-answer c d h e x (inr f) = absurd f

one-loose : (c d : Config) → AreWide c.domains → c ≡ d → AllRows (loose_with d ∷ [])
one-loose c d h e x (inl i) = subst (λ y. IsRow (row_at y)) i (subst (λ y. IsRow (leaf_row y)) e (leaf-IsRow c h))
one-loose c d h e x (inr f) = absurd f

module _ (clauses : Program) where
  mutual
    all_rows : (t : Search) (c : Config) → AreWide c.domains → IsSearch clauses c t → AllRows (leaves t)
    all_rows (answer d) c w h = one-answer c d w h.1
    all_rows (loose d) c w h = one-loose c d w h.1
    all_rows refused c w h = λ x i. absurd i
    all_rows (passed t) c w h = all_rows t h.2 h.3.solved.row.wide h.4
    all_rows (choice ts) c w h = each_rows ts h.0 h.2

    each_rows : (ts : Searches) (ws : List Way) → AreSearches clauses ws ts → AllRows (leaves_all ts)
    each_rows no_more ws h = λ x i. absurd i
    each_rows (child t ts) ws h = each-child (λ r. IsRow r) t ts (all_rows t h.3 h.4.solved.row.wide h.5) (each_rows ts h.1 h.6)
    each_rows (failed ts) ws h = each_rows ts h.1 h.4

pub leaves_are_rows : LeavesAreRows
leaves_are_rows clauses c t w h r i = each-row (λ q. IsRow q) (leaves t) (all_rows clauses t c w h) r i

pub call_is_row : CallIsRow
call_is_row face w = record { canonical = call-IsCanonical face; wide = w }
