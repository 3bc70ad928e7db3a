-- Terms in which some variables are replaced.
use Rattle.std.proofs.Common.{◌≡◌, ℕ, ◌<◌, true, false, List, [], ◌∷◌, length, get_or, Some, refl, ap, sym, ◌∙◌}
use Rattle.std.specs.Prelude.{cond, nat_eq}
use Rattle.std.specs.List.{flat_map, list_any, position}
use Rattle.pp_algebra.specs.Terms.{Tree, variable, put}
use Rattle.pp_algebra.specs.Canon.{has, place}
use Rattle.pp_algebra.specs.Numbered.{column}
use Rattle.pp_algebra.proofs.CanonLemmas.{nat_eq-IsSame}
use Rattle.pp_row.specs.declared.cell.Cell.{Cell}
use Rattle.pp_row.specs.declared.cell.Cell.TheVariants.{Int, Atom, Compound, Var}
use Rattle.pp_row.specs.Cells.{cells_of}
use Rattle.pp_row.specs.Codes.{tree_of-cells_of}
use Rattle.pp_row.specs.Columns.{trees_of}
use Rattle.pp_row.specs.Reading.{tree_of}
use Rattle.pp_row.specs.Substitution.{put_cell}
use Rattle.pp_row.proofs.Keys.{any_has, position_place, position_some, has_none, map_same}
use Rattle.pp_row.proofs.Substituted.{cells_of-put}
use Rattle.pp_store.specs.Replacing.{replacement}
use Rattle.pp_store.proofs.Applying.{column-is}

pub replaced_there : (keys : List ℕ) (terms : List (Tree ℕ)) (v k : ℕ) (t : Tree ℕ) → true ≡ list_any (nat_eq v) keys → Some k ≡ position (nat_eq v) keys → k < length terms → t ≡ get_or terms k t → replacement keys (trees_of terms) v ≡ t
replaced_there keys terms v k t f p l e =
    let h : has nat_eq keys v ≡ true = ap (λ vs. has nat_eq vs v) (sym (map_same keys)) ∙ sym (any_has nat_eq nat_eq-IsSame (λ j. j) keys v) ∙ sym f in
    let n : k ≡ place nat_eq keys v = position_some _ keys k p ∙ position_place nat_eq nat_eq-IsSame (λ j. j) keys v ∙ ap (λ vs. place nat_eq vs v) (map_same keys) in
    ap (λ b. cond b (column (trees_of terms) (place nat_eq keys v)) (variable v)) h ∙ ap (column (trees_of terms)) (sym n) ∙ column-is terms k t l ∙ sym e

pub replaced_nowhere : (keys : List ℕ) (terms : List (Tree ℕ)) (v : ℕ) → false ≡ list_any (nat_eq v) keys → replacement keys (trees_of terms) v ≡ variable v
replaced_nowhere keys terms v f =
    let h : has nat_eq keys v ≡ false = ap (λ vs. has nat_eq vs v) (sym (map_same keys)) ∙ has_none nat_eq nat_eq-IsSame (λ j. j) keys v f in
    ap (λ b. cond b (column (trees_of terms) (place nat_eq keys v)) (variable v)) h

pub no_variable : (s : ℕ → Tree ℕ) (c : Cell) → ((v : ℕ) → c ≡ Var v → ⊥) → put_cell s c ≡ c ∷ []
no_variable s (Int n) h = refl
no_variable s (Atom a) h = refl
no_variable s (Compound f k) h = refl
no_variable s (Var v) h = absurd (h v refl)

pub written_so : (s : ℕ → Tree ℕ) (t : Tree ℕ) (cells out : List Cell) → cells ≡ cells_of t → out ≡ flat_map (put_cell s) cells → cells_of (put s t) ≡ out
written_so s t cells out c e = cells_of-put s t ∙ ap (flat_map (put_cell s)) (sym c) ∙ sym e

pub one_term_so : (t u : Tree ℕ) (out : List Cell) → cells_of t ≡ out → cells_of u ≡ out → t ≡ u
one_term_so t u out e f = sym (tree_of-cells_of t) ∙ ap (λ cs. tree_of cs) (e ∙ sym f) ∙ tree_of-cells_of u
