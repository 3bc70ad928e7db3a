-- The lines of named variables and of marked variables.
use Rattle.std.proofs.Common.{◌≡◌, ℤ, ℕ, zero, suc, ◌+◌, min, Bool, cond, List, [], ◌∷◌, map, take, length, Option, Some, None, ◌⊎◌, inl, inr, refl, ap, ◌∙◌, arith}
use Rattle.std.proofs.lemmas.List.{length-map}
use Rattle.pp_algebra.specs.Terms.{Tree, Trees, more, variables_all}
use Rattle.pp_algebra.specs.Rows.{Domain}
use Rattle.pp_row.specs.Columns.{trees_of, set_by, sets_of}
use Rattle.pp_language.specs.Texts.{Text}
use Rattle.pp_language.specs.Printing.{name_at, ranged_text}
use Rattle.pp_language.specs.Answers.{lines, named_lines, domain_lines, first_columns}
use Rattle.pp_print.specs.Marks.{Marks, mark_at, marked_lines}

pub no_named_lines : (names : List Text) (named : List ℕ) (columns : List (Tree ℕ)) → (named ≡ []) ⊎ (columns ≡ []) → lines (named_lines names (map (name_at names) named) (trees_of columns)) ≡ []
no_named_lines names named columns (inl e) = ap (λ xs. lines (named_lines names (map (name_at names) xs) (trees_of columns))) e
no_named_lines names [] columns (inr e) = refl
no_named_lines names (n ∷ named) columns (inr e) = ap (λ ts. lines (named_lines names (map (name_at names) (n ∷ named)) (trees_of ts))) e

pub first-columns : (n m : ℕ) (ts : List (Tree ℕ)) → m ≡ min n (length ts) → trees_of (take m ts) ≡ first_columns n (trees_of ts)
first-columns zero m ts e = let z : m ≡ 0 = omega (arith, e) in ap (λ k. trees_of (take k ts)) z
first-columns (suc n) m [] e = let z : m ≡ 0 = omega (arith, e) in ap (λ k. trees_of (take {A = Tree ℕ} k [])) z
first-columns (suc n) m (t ∷ ts) e = let z : m ≡ suc (min n (length ts)) = omega (arith, e) in ap (λ k. trees_of (take k (t ∷ ts))) z ∙ ap (more t) (first-columns n (min n (length ts)) ts refl)

marked-lines : (columns : Trees ℕ) (marks : List Bool) (n v : ℕ) (ds : List (Option Domain)) → Marks n (variables_all columns) marks → v + length ds ≡ n → marked_lines marks v ds ≡ domain_lines columns v ds
marked-lines columns marks n v [] m e = refl
marked-lines columns marks n v (None ∷ ds) m e = marked-lines columns marks n (suc v) ds m (omega (arith, e))
marked-lines columns marks n v (Some d ∷ ds) m e =
    let rest = marked-lines columns marks n (suc v) ds m (omega (arith, e)) in
    ap (λ xs. cond (mark_at marks v) (ranged_text v d ∷ xs) xs) rest ∙ ap (λ b. cond b (ranged_text v d ∷ domain_lines columns (suc v) ds) (domain_lines columns (suc v) ds)) (m.each v (omega (arith, e)))

pub domains_written : (columns : Trees ℕ) (shown : List (Tree ℕ)) (ds : List (Option (List (ℤ × ℤ)))) (domains : List (Option Domain)) (marks : List Bool) → sets_of ds ≡ domains → trees_of shown ≡ columns → Marks (length ds) (variables_all (trees_of shown)) marks
    → marked_lines marks 0 (sets_of ds) ≡ domain_lines columns 0 domains
domains_written columns shown ds domains marks d f m =
    marked-lines (trees_of shown) marks (length ds) 0 (sets_of ds) m (omega (arith, length-map ds set_by)) ∙ ap (λ ts. domain_lines ts 0 (sets_of ds)) f ∙ ap (domain_lines columns 0) d
