-- The table of pairs, as a list of names.
use Rattle.std.proofs.Common.{◌≡◌, ℕ, true, Bool, List, [], ◌∷◌, ◌++◌, All, refl, ap, sym, ◌∙◌}
use Rattle.std.specs.Prelude.{cond, ◌&&◌}
use Rattle.std.specs.Bool.{Decides}
use Rattle.std.specs.Cmp.Lexicographic.{pointwise}
use Rattle.std.specs.List.{list_any, position_or_len}
use Rattle.std.proofs.lemmas.List.Elements.{All-head, All-tail}
use Rattle.std.proofs.lemmas.Slice.Eq.{slice_eq-Decides}
use Rattle.pp_algebra.specs.Canon.{firsts, place, same_list}
use Rattle.pp_algebra.proofs.Bools.{left_true, right_true, both_true}
use Rattle.pp_algebra.proofs.CanonLemmas.{same_list-IsSame}
use Rattle.pp_row.specs.Reading.{tree_of}
use Rattle.pp_row.specs.declared.cell.Cell.{Cell}
use Rattle.pp_row.specs.contracts.cell.CellPartialEq.TheImpl.{eq-value}
use Rattle.pp_row.proofs.Decide.{cell_decides}
use Rattle.pp_row.proofs.Keys.{taken, place_now, position_place}
use Rattle.pp_lgg.specs.declared.pair.Pair.{Pair}
use Rattle.pp_lgg.specs.Pairs.{IsPair, name, names}
use Rattle.pp_row.proofs.OneTerm.{same_terms}
use Rattle.pp_algebra.proofs.Antisym.{same_bool}

abbrev same_cells : List Cell → List Cell → Bool
same_cells = pointwise eq-value.it

-- `==` of two pairs
abbrev pub same_pair : Pair → Pair → Bool
same_pair p q = same_cells p.left.now q.left.now && same_cells p.right.now q.right.now

cells_decide : (cs ds : List Cell) → Decides (same_cells cs ds) (cs ≡ ds)
cells_decide cs ds = slice_eq-Decides cell_decides cs ds (same_cells cs ds) refl

one_name : (p q : Pair) → same_pair p q ≡ true → name p ≡ name q
one_name p q h =
    let a : p.left.now ≡ q.left.now = (cells_decide p.left.now q.left.now).0 (left_true _ _ h) in
    let b : p.right.now ≡ q.right.now = (cells_decide p.right.now q.right.now).0 (right_true (same_cells p.left.now q.left.now) _ h) in
    rw (a, b) refl

one_pair : (p q : Pair) → IsPair p → IsPair q → name p ≡ name q → same_pair p q ≡ true
one_pair p q h k e =
    let a : tree_of p.left.now ≡ tree_of q.left.now = cc in
    let b : tree_of p.right.now ≡ tree_of q.right.now = cc in
    both_true _ _ ((cells_decide p.left.now q.left.now).1 (same_terms p.left.now q.left.now h.left k.left a)) ((cells_decide p.right.now q.right.now).1 (same_terms p.right.now q.right.now h.right k.right b))

-- pairs of terms are told apart by their names
pub by_name : (p q : Pair) → IsPair p → IsPair q → same_pair p q ≡ same_list (name p) (name q)
by_name p q h k = same_bool _ _
    (λ e. ap (same_list (name p)) (sym (one_name p q e)) ∙ same_list-IsSame.itself (name p))
    (λ e. one_pair p q h k (same_list-IsSame.is (name p) (name q) e))

module _ (p : Pair) (h : IsPair p) where
  any_named : (qs : List Pair) → All IsPair qs → list_any (same_pair p) qs ≡ list_any (λ q. same_list (name p) (name q)) qs
  any_named [] k = refl
  any_named (q ∷ qs) k = rw (by_name p q h (All-head IsPair q qs k), any_named qs (All-tail IsPair q qs k)) refl

  position_named : (qs : List Pair) → All IsPair qs → position_or_len (same_pair p) qs ≡ position_or_len (λ q. same_list (name p) (name q)) qs
  position_named [] k = refl
  position_named (q ∷ qs) k = rw (by_name p q h (All-head IsPair q qs k), position_named qs (All-tail IsPair q qs k)) refl

  -- the table after the pair was taken in
  module _ (old new : List Pair) (k : All IsPair old) (e : new ≡ cond (list_any (same_pair p) old) old (old ++ p ∷ [])) where
    named : new ≡ cond (list_any (λ q. same_list (name p) (name q)) old) old (old ++ p ∷ [])
    named = e ∙ ap (λ b. cond b old (old ++ p ∷ [])) (any_named old k)

    pub names_now : names new ≡ firsts same_list (names old) (name p ∷ [])
    names_now = taken same_list same_list-IsSame name old new p named

    pub number_now : (n : ℕ) → n ≡ position_or_len (same_pair p) old → n ≡ place same_list (names new) (name p)
    number_now n f = place_now same_list same_list-IsSame name old new p n named (f ∙ position_named old k ∙ position_place same_list same_list-IsSame name old (name p))
