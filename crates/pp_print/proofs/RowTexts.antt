-- The texts of a row: its columns, and behind them the finite domains.
use Rattle.std.proofs.Common.{◌≡◌, ℤ, ℕ, ◌≤◌, List, [], ◌∷◌, ◌++◌, map, drop, length, codes, Option, refl, ap, sym, ◌∙◌, append-nil}
use Rattle.std.proofs.lemmas.List.{drop_all}
use Rattle.pp_algebra.specs.Terms.{Tree}
use Rattle.pp_row.specs.Columns.{trees_of, sets_of}
use Rattle.pp_language.specs.Texts.{Text}
use Rattle.pp_language.specs.Printing.{term_text, column_texts, ranged_texts, joined, behind_columns}
use Rattle.pp_print.proofs.Listed.{listed, listed-joined, listed-behind, listed_end}

map-columns : (names : List Text) (ts : List (Tree ℕ)) → map (term_text names) ts ≡ column_texts names (trees_of ts)
map-columns names [] = refl
map-columns names (t ∷ ts) = ap (λ xs. term_text names t ∷ xs) (map-columns names ts)

pub columns_end : (names : List Text) (ts : List (Tree ℕ)) (i : ℕ) (separator start out before : Text) → length ts ≤ i → start ≡ []
    → out ++ listed separator (map (term_text names) (drop i ts)) ≡ before ++ listed start (map (term_text names) ts) → out ≡ before ++ joined (codes ", ") (column_texts names (trees_of ts))
columns_end names ts i separator start out before l s e =
    listed_end (term_text names) ts i separator out _ l e
    ∙ ap (λ x. before ++ listed x (map (term_text names) ts)) s
    ∙ ap (λ x. before ++ x) (listed-joined (map (term_text names) ts) ∙ ap (joined (codes ", ")) (map-columns names ts))

pub domains_end : (ds : List (Option (List (ℤ × ℤ)))) (i v : ℕ) (separator start out before : Text) → length ds ≤ i → start ≡ codes " | "
    → out ++ listed separator (ranged_texts v (sets_of (drop i ds))) ≡ before ++ listed start (ranged_texts 0 (sets_of ds)) → out ≡ before ++ behind_columns (ranged_texts 0 (sets_of ds))
domains_end ds i v separator start out before l s e =
    sym (append-nil out)
    ∙ ap (λ xs. out ++ listed separator (ranged_texts v (sets_of xs))) (sym (drop_all i ds l))
    ∙ e
    ∙ ap (λ x. before ++ listed x (ranged_texts 0 (sets_of ds))) s
    ∙ ap (λ x. before ++ x) (listed-behind (ranged_texts 0 (sets_of ds)))
