-- A pair of compounds of one name gives way to their arguments and the terms after them.
use Rattle.std.proofs.Common.{◌≡◌, ℕ, ◌+◌, ◌-◌, ◌<◌, List, [], ◌∷◌, ◌++◌, All, refl, ap, sym, ◌∙◌, subst, arith}
use Rattle.std.specs.Prelude.{◌↔◌}
use Rattle.std.proofs.lemmas.List.Elements.{All-push}
use Rattle.pp_row.specs.declared.cell.Cell.{Cell}
use Rattle.pp_row.specs.Cells.{arity_of}
use Rattle.pp_row.specs.Reading.{IsForest}
use Rattle.pp_row.proofs.Next.{next}
use Rattle.pp_algebra.specs.Terms.{Tree, Trees, none, more, put, put_all, count, join}
use Rattle.pp_algebra.specs.Least.{rest, arguments}
use Rattle.pp_algebra.proofs.Put.{count-put_all}
use Rattle.pp_unify.specs.declared.pair.Pair.{Pair}
use Rattle.pp_heap.specs.Values.{cell_at, term_at}
use Rattle.pp_heap.specs.Soundness.{IsCompound}
use Rattle.pp_heap.specs.Spans.{span_terms, sizes}
use Rattle.pp_unify.specs.Pairs.{left_span, right_span, IsPair, Opens}
use Rattle.pp_heap.proofs.Forests.{term_cell}
use Rattle.pp_heap.proofs.Walk.{sizes-join, opened_at}
use Rattle.pp_heap.proofs.Work.{inside_span, inside_terms}
use Rattle.pp_unify.proofs.Pairs.{equal_push, sizes_push}
use Rattle.pp_unify.proofs.PairSteps.{arguments_equal, head_of_span, more_equal}
use Rattle.pp_algebra.proofs.Joined.{put_all-join}

join_equal : (gs hs ts us : Trees ℕ) → count gs ≡ count hs → (join gs ts ≡ join hs us) ↔ ((ts ≡ us) × (gs ≡ hs))
join_equal none none ts us e = ((λ h. (h, refl)), λ h. h.0)
join_equal none (more b hs) ts us e = absurd (omega (arith, e))
join_equal (more a gs) none ts us e = absurd (omega (arith, e))
join_equal (more a gs) (more b hs) ts us e =
    let n : count gs ≡ count hs = omega (arith, e) in
    let r = join_equal gs hs ts us n in (
      (λ h. let i : join gs ts ≡ join hs us = cc in let j : a ≡ b = cc in let k = r.0 i in (k.0, rw (j, k.1) refl)),
      λ h. let i : gs ≡ hs = cc in let j : a ≡ b = cc in rw (j, r.1 (h.0, i)) refl,
    )

module _ (heap : List Cell) (ps qs : List Pair) (p : Pair) (k : ℕ) (f : IsForest heap) (h : IsPair heap p) (e : k ≡ arity_of (cell_at heap p.left)) (c : cell_at heap p.left ≡ cell_at heap p.right) (m : IsCompound (cell_at heap p.left)) where
  abbrev inner : Pair
  inner = record { left = p.left + 1; right = p.right + 1; count = p.count - 1 + k }

  e' : k ≡ arity_of (cell_at heap p.right)
  e' = e ∙ ap arity_of c

  m' : IsCompound (cell_at heap p.right)
  m' = subst IsCompound c m

  counts : count (arguments (term_at heap p.left)) ≡ count (arguments (term_at heap p.right))
  counts = (next heap p.left _ f h.left.within).arity ∙ sym e ∙ e' ∙ sym (next heap p.right _ f h.right.within).arity

  equal : (s : ℕ → Tree ℕ) → (put_all s (span_terms heap (left_span inner)) ≡ put_all s (span_terms heap (right_span inner))) ↔ (put_all s (span_terms heap (left_span p)) ≡ put_all s (span_terms heap (right_span p)))
  equal s =
      let t = term_at heap p.left in
      let u = term_at heap p.right in
      let ts = rest (span_terms heap (left_span p)) in
      let us = rest (span_terms heap (right_span p)) in
      let l = ap (put_all s) (inside_terms heap p.left p.count k f h.left e) ∙ put_all-join s (arguments t) ts in
      let r = ap (put_all s) (inside_terms heap p.right p.count k f h.right e') ∙ put_all-join s (arguments u) us in
      let a = ap (put_all s) (head_of_span heap (left_span p) h.left) in
      let b = ap (put_all s) (head_of_span heap (right_span p) h.right) in
      let x = term_cell heap p.left f h.left.within in
      let y = term_cell heap p.right f h.right.within in
      let g = arguments_equal s t u (subst IsCompound (sym x) m) (subst IsCompound (sym y) m') (x ∙ c ∙ sym y) in
      let j = join_equal (put_all s (arguments t)) (put_all s (arguments u)) (put_all s ts) (put_all s us) (count-put_all s (arguments t) ∙ counts ∙ sym (count-put_all s (arguments u))) in
      let o = more_equal (put s t) (put s u) (put_all s ts) (put_all s us) in (
        (λ z. let i = j.0 (sym l ∙ z ∙ r) in a ∙ o.1 (i.0, g.1 i.1) ∙ sym b),
        λ z. let i = o.0 (sym a ∙ z ∙ b) in l ∙ j.1 (i.0, g.0 i.1) ∙ sym r,
      )

  less : (s : ℕ → Tree ℕ) → sizes s (span_terms heap (left_span inner)) + sizes s (span_terms heap (right_span inner)) < sizes s (span_terms heap (left_span p)) + sizes s (span_terms heap (right_span p))
  less s =
      let t = term_at heap p.left in
      let u = term_at heap p.right in
      let ts = rest (span_terms heap (left_span p)) in
      let us = rest (span_terms heap (right_span p)) in
      let l = ap (sizes s) (inside_terms heap p.left p.count k f h.left e) ∙ sizes-join s (arguments t) ts in
      let r = ap (sizes s) (inside_terms heap p.right p.count k f h.right e') ∙ sizes-join s (arguments u) us in
      let a = ap (sizes s) (head_of_span heap (left_span p) h.left) in
      let b = ap (sizes s) (head_of_span heap (right_span p) h.right) in
      let x = (opened_at s heap p.left f h.left.within m).size in
      let y = (opened_at s heap p.right f h.right.within m').size in
      omega (arith, l, r, a, b, x, y)

  pub opens : qs ≡ ps ++ inner ∷ [] → All (IsPair heap) ps → Opens heap ps qs p
  opens q a = rw q (record {
    all = All-push (IsPair heap) ps inner a (record { left = inside_span heap p.left p.count k f h.left e m; right = inside_span heap p.right p.count k f h.right e' m' });
    equal = λ s.
        let x = equal_push heap s ps inner in
        let y = equal_push heap s ps p in
        let z = equal s in
        ((λ i. let j = x.0 i in y.1 (j.0, z.0 j.1)), λ i. let j = y.0 i in x.1 (j.0, z.1 j.1));
    sizes = λ s. omega (arith, sizes_push heap s ps inner, sizes_push heap s ps p, less s);
  })
