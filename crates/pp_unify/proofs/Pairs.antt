-- Pairs of terms that are to be made equal.
use Rattle.std.proofs.Common.{◌≡◌, ℕ, ◌+◌, List, [], ◌∷◌, ◌++◌, refl, arith, All, Some}
use Rattle.std.specs.Prelude.{◌↔◌}
use Rattle.std.proofs.lemmas.List.Elements.{All-push, All-pop}
use Rattle.pp_row.specs.declared.cell.Cell.{Cell}
use Rattle.pp_algebra.specs.Terms.{Tree, Trees, none, put_all}
use Rattle.pp_unify.specs.declared.pair.Pair.{Pair}
use Rattle.pp_heap.specs.Spans.{span_terms, sizes}
use Rattle.pp_unify.specs.Pairs.{left_span, right_span, IsPair, AllEqual, both_sizes, Pushes}

pub equal_push : (heap : List Cell) (s : ℕ → Tree ℕ) (ps : List Pair) (p : Pair) → AllEqual heap s (ps ++ p ∷ []) ↔ (AllEqual heap s ps × (put_all s (span_terms heap (left_span p)) ≡ put_all s (span_terms heap (right_span p))))
equal_push heap s [] p = ((λ h. (tt, h.0)), λ h. (h.1, tt))
equal_push heap s (q ∷ ps) p = let r = equal_push heap s ps p in ((λ h. ((h.0, (r.0 h.1).0), (r.0 h.1).1)), λ h. (h.0.0, r.1 (h.0.1, h.1)))

pub sizes_push : (heap : List Cell) (s : ℕ → Tree ℕ) (ps : List Pair) (p : Pair) → both_sizes heap s (ps ++ p ∷ []) ≡ both_sizes heap s ps + (sizes s (span_terms heap (left_span p)) + sizes s (span_terms heap (right_span p)))
sizes_push heap s [] p = omega arith
sizes_push heap s (q ∷ ps) p = let r = sizes_push heap s ps p in omega arith

pub pushes_pair : (heap : List Cell) (ps qs : List Pair) (p : Pair) (ls rs : Trees ℕ) → qs ≡ ps ++ p ∷ [] → All (IsPair heap) ps → IsPair heap p → span_terms heap (left_span p) ≡ ls → span_terms heap (right_span p) ≡ rs → Pushes heap ps qs ls rs
pushes_pair heap ps qs p ls rs e a h l r = rw (e, ← l, ← r) (record { all = All-push (IsPair heap) ps p a h; equal = λ s. equal_push heap s ps p; sizes = λ s. sizes_push heap s ps p })

pub pushes_none : (heap : List Cell) (ps : List Pair) (ls rs : Trees ℕ) → All (IsPair heap) ps → ls ≡ none → rs ≡ none → Pushes heap ps ps ls rs
pushes_none heap ps ls rs a l r = rw (l, r) (record { all = a; equal = λ s. ((λ h. (h, refl)), λ h. h.0); sizes = λ s. omega arith })

pub pair_pop : (heap : List Cell) (ws ps : List Pair) (p : Pair) → ws ≡ ps ++ p ∷ [] → All (IsPair heap) ws → All (IsPair heap) ps × IsPair heap p
pair_pop heap ws ps p e a = All-pop (IsPair heap) ws ps (Some p) e a
