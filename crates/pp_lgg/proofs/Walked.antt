-- How far the walk of two terms has come.
use Rattle.std.proofs.Common.{◌≡◌, ℕ, true, false, List, [], ◌∷◌, ◌++◌, refl, ap, ◌∙◌, sym, append_assoc, append-nil, inl}
use Rattle.std.specs.Prelude.{cond}
use Rattle.pp_row.specs.declared.cell.Cell.{Cell}
use Rattle.pp_row.specs.declared.cell.Cell.TheVariants.{Var}
use Rattle.pp_algebra.specs.Terms.{Tree, variable, Trees, none, more, put, put_all, variables, variables_all}
use Rattle.pp_algebra.specs.Canon.{has, firsts, place, same_list}
use Rattle.pp_algebra.proofs.CanonLemmas.{same_list-IsSame, has-all, place-front}
use Rattle.pp_row.specs.Cells.{cells_of, cells_of_all}
use Rattle.pp_row.proofs.Numbering.{firsts-append}
use Rattle.pp_lgg.specs.Pairs.{placed}
use Rattle.pp_lgg.proofs.Common.{Agrees}

-- of the whole, what is ahead is left; the names and the cells are those of what is behind
pub record Walked (start : List (List (Tree ℕ))) (whole ahead : Trees (List (Tree ℕ))) (ns : List (List (Tree ℕ))) (cs : List Cell) : Type 0 where
  pub names : firsts same_list start (variables_all whole) ≡ firsts same_list ns (variables_all ahead)
  pub cells : (later : List (List (Tree ℕ))) → cells_of_all (put_all (placed (ns ++ later)) whole) ≡ cs ++ cells_of_all (put_all (placed (ns ++ later)) ahead)

pub starts : (start : List (List (Tree ℕ))) (whole : Trees (List (Tree ℕ))) → Walked start whole whole start []
starts start whole = record { names = refl; cells = λ later. refl }

pub step_agree : (start ns : List (List (Tree ℕ))) (whole ahead next : Trees (List (Tree ℕ))) (c : Cell) (cs : List Cell) → Agrees c ahead next → Walked start whole ahead ns cs → Walked start whole next ns (cs ++ c ∷ [])
step_agree start ns whole ahead next c cs a w = record {
  names = w.names ∙ ap (firsts same_list ns) a.variables;
  cells = λ later. w.cells later ∙ ap (λ ds. cs ++ ds) (a.cells (placed (ns ++ later))) ∙ sym (append_assoc cs (c ∷ []) (cells_of_all (put_all (placed (ns ++ later)) next)));
}

with_one : (ns : List (List (Tree ℕ))) (v : List (Tree ℕ)) → (ms : List (List (Tree ℕ))) × (firsts same_list ns (v ∷ []) ≡ ns ++ ms)
with_one ns v = elim (has same_list ns v) as (λ b. (ms : List (List (Tree ℕ))) × (cond b ns (ns ++ v ∷ []) ≡ ns ++ ms)) [
  | true ↦ ([], sym (append-nil ns))
  | false ↦ (v ∷ [], refl)
]

pub step_apart : (start ns ms : List (List (Tree ℕ))) (whole next : Trees (List (Tree ℕ))) (v : List (Tree ℕ)) (k : ℕ) (cs : List Cell) → ms ≡ firsts same_list ns (v ∷ []) → k ≡ place same_list ms v → Walked start whole (more (variable v) next) ns cs → Walked start whole next ms (cs ++ Var k ∷ [])
step_apart start ns ms whole next v k cs e p w = record {
  names = w.names ∙ firsts-append same_list ns (v ∷ []) (variables_all next) ∙ ap (λ x. firsts same_list x (variables_all next)) (sym e);
  cells = λ later.
      let o = with_one ns v in
      let a : ms ++ later ≡ ns ++ (o.0 ++ later) = ap (λ x. x ++ later) (e ∙ o.1) ∙ append_assoc ns o.0 later in
      let h : has same_list ms v ≡ true = ap (λ x. has same_list x v) e ∙ has-all same_list same_list-IsSame ns (v ∷ []) v (inl refl) in
      let q : place same_list (ms ++ later) v ≡ k = place-front same_list ms later v h ∙ sym p in
      ap (λ x. cells_of_all (put_all (placed x) whole)) a
      ∙ w.cells (o.0 ++ later)
      ∙ ap (λ x. cs ++ (Var (place same_list x v) ∷ cells_of_all (put_all (placed x) next))) (sym a)
      ∙ ap (λ n. cs ++ (Var n ∷ cells_of_all (put_all (placed (ms ++ later)) next))) q
      ∙ sym (append_assoc cs (Var k ∷ []) (cells_of_all (put_all (placed (ms ++ later)) next)));
}

pub ends : (start ns : List (List (Tree ℕ))) (l : Tree (List (Tree ℕ))) (cs : List Cell) → Walked start (more l none) none ns cs → (ns ≡ firsts same_list start (variables l)) × (cells_of (put (placed ns) l) ≡ cs)
ends start ns l cs w = (
  sym w.names ∙ ap (firsts same_list start) (append-nil (variables l)),
  ap (λ ms. cells_of (put (placed ms) l)) (sym (append-nil ns)) ∙ sym (append-nil (cells_of (put (placed (ns ++ [])) l))) ∙ w.cells [] ∙ append-nil cs,
)
