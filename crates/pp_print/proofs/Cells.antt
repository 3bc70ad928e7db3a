-- One cell of a term after another is written.
use Rattle.std.proofs.Common.{◌≡◌, ◌≢◌, ℕ, suc, List, [], ◌∷◌, ◌++◌, drop, get_or, length, ◌<◌, ◌≤◌, ◌+◌, refl, ap, sym, ◌∙◌, append-nil, append_assoc, add-one}
use Rattle.std.proofs.Math.Seq.{drop-cons}
use Rattle.std.proofs.lemmas.List.{drop_all}
use Rattle.pp_algebra.specs.Terms.{Tree, int, node, variable, Trees, none, more, count, join}
use Rattle.pp_row.specs.declared.cell.Cell.{Cell}
use Rattle.pp_row.specs.declared.cell.Cell.TheVariants.{Int, Atom, Compound, Var}
use Rattle.pp_row.specs.Cells.{cells_of, cells_of_all, arity_of}
use Rattle.pp_language.specs.Texts.{Text}
use Rattle.pp_language.specs.Printing.{term_text, more_arguments_text, atom_text, name_at}
use Rattle.pp_print.specs.Left.{cell_text, behind, text_left}
use Rattle.pp_print.proofs.Left.{text_left-open}
use Rattle.pp_row.proofs.OneTerm.{cells_of_all-join}

-- these cells are terms, and with their text the whole is what was there before and the text of the term
pub record Writes (names : List Text) (t : Tree ℕ) (before out : Text) (unclosed : List ℕ) (rest : List Cell) : Type 0 where
  pub terms : Trees ℕ
  pub cells : cells_of_all terms ≡ rest
  pub text : out ++ text_left names unclosed terms ≡ before ++ term_text names t

pub starts : (names : List Text) (t : Tree ℕ) (before : Text) (cs : List Cell) → cs ≡ cells_of t → Writes names t before before [] cs
starts names t before cs e = record {
  terms = more t none;
  cells = append-nil (cells_of t) ∙ sym e;
  text = ap (λ x. before ++ x) (append-nil (term_text names t));
}

some_cells : (t : Tree ℕ) (cs : List Cell) → cells_of t ++ cs ≡ [] → ⊥
some_cells (int n) cs e = cc
some_cells (node f ts) cs e = cc
some_cells (variable v) cs e = cc

ends : (names : List Text) (t : Tree ℕ) (before out : Text) (unclosed : List ℕ) → Writes names t before out unclosed [] → out ≡ before ++ term_text names t
ends names t before out unclosed w = go w.terms w.cells w.text
  where
    go : (ts : Trees ℕ) → cells_of_all ts ≡ [] → out ++ text_left names unclosed ts ≡ before ++ term_text names t → out ≡ before ++ term_text names t
    go none e h = sym (append-nil out) ∙ h
    go (more u us) e h = absurd (some_cells u (cells_of_all us) e)

opening : (out a t ts rest : Text) → (out ++ (a ++ 40 ∷ [])) ++ (t ++ (ts ++ rest)) ≡ out ++ ((a ++ ((40 ∷ t) ++ ts)) ++ rest)
opening out a t ts rest = simp append_assoc

module _ (names : List Text) (t : Tree ℕ) (before out written : Text) (unclosed : List ℕ) (c : Cell) (cs : List Cell) where
  -- a cell without arguments, and then what follows its term
  single : Writes names t before out unclosed (c ∷ cs) → written ≡ out ++ cell_text names c → arity_of c ≡ 0
      → (then : Text) (after : List ℕ) → ((ts : Trees ℕ) → then ++ text_left names after ts ≡ written ++ behind names unclosed ts) → Writes names t before then after cs
  single w e a then after h = go w.terms w.cells w.text
    where
      next : (u : Tree ℕ) (us : Trees ℕ) → cell_text names c ≡ term_text names u → cells_of_all us ≡ cs → out ++ (term_text names u ++ behind names unclosed us) ≡ before ++ term_text names t → Writes names t before then after cs
      next u us f g k = record {
        terms = us;
        cells = g;
        text = h us ∙ ap (λ x. x ++ behind names unclosed us) (e ∙ ap (λ x. out ++ x) f) ∙ append_assoc out (term_text names u) (behind names unclosed us) ∙ k;
      }

      go : (ts : Trees ℕ) → cells_of_all ts ≡ c ∷ cs → out ++ text_left names unclosed ts ≡ before ++ term_text names t → Writes names t before then after cs
      go none f k = absurd (cc)
      go (more (int n) us) f k = let g : c ≡ Int n = cc in next (int n) us (rw g refl) (cc) k
      go (more (variable v) us) f k = let g : c ≡ Var v = cc in next (variable v) us (rw g refl) (cc) k
      go (more (node b none) us) f k = let g : c ≡ Atom b = cc in next (node b none) us (rw g (sym (append-nil (atom_text (name_at names b))))) (cc) k
      go (more (node b (more u ts)) us) f k = let g : c ≡ Compound b (suc (count ts)) = cc in absurd (let n : suc (count ts) ≡ 0 = ap arity_of (sym g) ∙ a in cc)

  -- a cell with arguments
  several : Writes names t before out unclosed (c ∷ cs) → written ≡ out ++ cell_text names c → arity_of c ≢ 0 → Writes names t before written (unclosed ++ arity_of c ∷ []) cs
  several w e a = go w.terms w.cells w.text
    where
      go : (ts : Trees ℕ) → cells_of_all ts ≡ c ∷ cs → out ++ text_left names unclosed ts ≡ before ++ term_text names t → Writes names t before written (unclosed ++ arity_of c ∷ []) cs
      go none f k = absurd (cc)
      go (more (int n) us) f k = let g : c ≡ Int n = cc in absurd (a (ap arity_of g))
      go (more (variable v) us) f k = let g : c ≡ Var v = cc in absurd (a (ap arity_of g))
      go (more (node b none) us) f k = let g : c ≡ Atom b = cc in absurd (a (ap arity_of g))
      go (more (node b (more u ts)) us) f k =
          let g : c ≡ Compound b (suc (count ts)) = cc in
          let m : (cells_of u ++ cells_of_all ts) ++ cells_of_all us ≡ cs = cc in
          let start : written ≡ out ++ (atom_text (name_at names b) ++ 40 ∷ []) = e ∙ ap (λ x. out ++ cell_text names x) g in
          record {
            terms = more u (join ts us);
            cells = ap (λ ds. cells_of u ++ ds) (cells_of_all-join ts us) ∙ sym (append_assoc (cells_of u) (cells_of_all ts) (cells_of_all us)) ∙ m;
            text = ap (λ x. x ++ text_left names (unclosed ++ arity_of c ∷ []) (more u (join ts us))) start
                ∙ ap (λ x. (out ++ (atom_text (name_at names b) ++ 40 ∷ [])) ++ text_left names (unclosed ++ x ∷ []) (more u (join ts us))) (ap arity_of g)
                ∙ ap (λ x. (out ++ (atom_text (name_at names b) ++ 40 ∷ [])) ++ x) (text_left-open names unclosed u ts us)
                ∙ opening out (atom_text (name_at names b)) (term_text names u) (more_arguments_text names ts) (behind names unclosed us)
                ∙ k;
          }

module _ (names : List Text) (t : Tree ℕ) (before out written : Text) (unclosed : List ℕ) (cells : List Cell) (i k : ℕ) (d : Cell) where
  pub single_turn : (then : Text) (after : List ℕ) → i < length cells → Writes names t before out unclosed (drop i cells) → written ≡ out ++ cell_text names (get_or cells i d) → k ≡ arity_of (get_or cells i d) → k ≡ 0
      → ((ts : Trees ℕ) → then ++ text_left names after ts ≡ written ++ behind names unclosed ts) → Writes names t before then after (drop (i + 1) cells)
  single_turn then after l w e a z h = rw add-one (single names t before out written unclosed (get_or cells i d) (drop (suc i) cells) (rw (drop-cons cells i d l) at w) e (sym a ∙ z) then after h)

  pub several_turn : i < length cells → Writes names t before out unclosed (drop i cells) → written ≡ out ++ cell_text names (get_or cells i d) → k ≡ arity_of (get_or cells i d) → (k ≡ 0 → ⊥)
      → Writes names t before written (unclosed ++ k ∷ []) (drop (i + 1) cells)
  several_turn l w e a z = rw (add-one, a) (several names t before out written unclosed (get_or cells i d) (drop (suc i) cells) (rw (drop-cons cells i d l) at w) e (λ n. z (a ∙ n)))

pub ends_there : (names : List Text) (t : Tree ℕ) (before out : Text) (unclosed : List ℕ) (cells : List Cell) (i : ℕ) → length cells ≤ i → Writes names t before out unclosed (drop i cells) → out ≡ before ++ term_text names t
ends_there names t before out unclosed cells i l w = ends names t before out unclosed (rw (drop_all i cells l) at w)
