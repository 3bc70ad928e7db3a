-- Lists of terms, as the code has them: columns, arguments, and the faces of goals.
use Rattle.std.proofs.Common.{◌≡◌, ℕ, ℤ, zero, suc, ◌+◌, ◌<◌, List, [], ◌∷◌, ◌++◌, map, length, Option, take, refl, ap, sym, ◌∙◌, arith}
use Rattle.std.specs.Prelude.{nat_eq, slice_index_or}
use Rattle.std.proofs.lemmas.List.{take_more, map_push}
use Rattle.pp_algebra.specs.Terms.{Tree, Trees, variable, put, put_all, variables, variables_all}
use Rattle.pp_algebra.specs.Rows.{domain_at}
use Rattle.pp_algebra.specs.Covers.{IsIn}
use Rattle.pp_algebra.specs.Canon.{firsts, canon}
use Rattle.pp_algebra.proofs.Order.{IsIn-left, IsIn-right}
use Rattle.pp_algebra.proofs.Antisym.{put-agree}
use Rattle.pp_sld.specs.Goals.{Goal, equals}
use Rattle.pp_algebra.specs.Numbered.{column}
use Rattle.pp_propagation.specs.Stores.{face}
use Rattle.pp_row.specs.Columns.{trees_of, sets_of, pattern_by}
use Rattle.pp_row.specs.Substitution.{term_at}
use Rattle.pp_row.proofs.Numbering.{firsts-append}
use Rattle.pp_store.proofs.Renumbered.{face_of}
use Rattle.pp_row.proofs.ColumnLists.{put-trees_of, variables-push}

pub column-is : (ts : List (Tree ℕ)) (v : ℕ) (d : Tree ℕ) → v < length ts → column (trees_of ts) v ≡ slice_index_or ts v d
column-is [] v d h = absurd (omega (arith, h))
column-is (t ∷ ts) zero d h = refl
column-is (t ∷ ts) (suc v) d h = column-is ts v d (omega (arith, h))

-- a variable of one of the terms is one of them all
pub IsIn-terms : (ts : List (Tree ℕ)) (k : ℕ) (d : Tree ℕ) (v : ℕ) → k < length ts → IsIn v (variables (slice_index_or ts k d)) → IsIn v (variables_all (trees_of ts))
IsIn-terms [] k d v h i = absurd (omega (arith, h))
IsIn-terms (t ∷ ts) zero d v h i = IsIn-left v (variables t) (variables_all (trees_of ts)) i
IsIn-terms (t ∷ ts) (suc k) d v h i = IsIn-right v (variables t) (variables_all (trees_of ts)) (IsIn-terms ts k d v (omega (arith, h)) i)

-- some goal of these arguments
abbrev pub goal_with : List (Tree ℕ) → Goal ℕ
goal_with ts = record { shape = equals; arguments = trees_of ts }

-- one more of the terms that stand for others
pub map_next : (f : Tree ℕ → Tree ℕ) (ts out new : List (Tree ℕ)) (i : ℕ) (t u : Tree ℕ) → i < length ts → t ≡ slice_index_or ts i t → out ≡ map f (take i ts) → u ≡ f t → new ≡ out ++ u ∷ [] → new ≡ map f (take (i + 1) ts)
map_next f ts out new i t u h e o g n =
    n ∙ ap (λ us. us ++ u ∷ []) o ∙ ap (λ x. map f (take i ts) ++ x ∷ []) g ∙ sym (map_push f (take i ts) t) ∙ ap (map f) (ap (λ x. take i ts ++ x ∷ []) e ∙ sym (take_more ts i t h))

-- a column for each variable of the term
pub under_is : (columns : List (Tree ℕ)) (t : Tree ℕ) → ((v : ℕ) → IsIn v (variables t) → v < length columns) → put (term_at columns) t ≡ put (column (trees_of columns)) t
under_is columns t h = put-agree (term_at columns) (column (trees_of columns)) t (λ v i. sym (column-is columns v (variable v) (h v i)))

-- the variables of one more term
pub names_next : (ts : List (Tree ℕ)) (i : ℕ) (t : Tree ℕ) → i < length ts → t ≡ slice_index_or ts i t → firsts nat_eq [] (variables_all (trees_of (take (i + 1) ts))) ≡ firsts nat_eq (firsts nat_eq [] (variables_all (trees_of (take i ts)))) (variables t)
names_next ts i t h e =
    let now : take (i + 1) ts ≡ take i ts ++ t ∷ [] = take_more ts i t h ∙ ap (λ x. take i ts ++ x ∷ []) (sym e) in
    ap (λ us. firsts nat_eq [] (variables_all (trees_of us))) now
    ∙ ap (firsts nat_eq []) (variables-push (take i ts) t)
    ∙ firsts-append nat_eq [] (variables_all (trees_of (take i ts))) (variables t)

-- the face of a goal, from its arguments under the columns
pub face_now : (columns arguments terms : List (Tree ℕ)) (ds : List (Option (List (ℤ × ℤ)))) → terms ≡ map (put (column (trees_of columns))) arguments → (g : Goal ℕ) → g.arguments ≡ trees_of arguments → canon nat_eq (pattern_by terms ds) ≡ face (canon nat_eq (pattern_by columns ds)) g
face_now columns arguments terms ds e g f =
    ap (λ ts. canon nat_eq (record { columns = ts; domains = domain_at (sets_of ds) })) (ap trees_of e ∙ sym (put-trees_of (column (trees_of columns)) arguments) ∙ ap (put_all (column (trees_of columns))) (sym f))
    ∙ sym (face_of (pattern_by columns ds) g)

-- the names of a goal's face
pub names_are : (columns : Trees ℕ) (arguments terms terms2 : List (Tree ℕ)) (names : List ℕ) → names ≡ firsts nat_eq [] (variables_all (trees_of terms2)) → terms2 ≡ terms → terms ≡ map (put (column columns)) arguments → names ≡ firsts nat_eq [] (variables_all (put_all (column columns) (trees_of arguments)))
names_are columns arguments terms terms2 names e f g = e ∙ ap (λ ts. firsts nat_eq [] (variables_all (trees_of ts))) (f ∙ g) ∙ ap (λ ts. firsts nat_eq [] (variables_all ts)) (sym (put-trees_of (column columns) arguments))
