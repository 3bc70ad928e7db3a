-- Terms that are still to be walked.
use Rattle.std.proofs.Common.{◌≡◌, ℕ, zero, suc, ◌+◌, ◌-◌, ◌<◌, ◌≤◌, pos, List, [], ◌∷◌, ◌++◌, length, refl, ap, sym, ◌∙◌, arith, All, Some}
use Rattle.std.proofs.lemmas.List.Elements.{All-push, All-pop}
use Rattle.pp_row.specs.declared.cell.Cell.{Cell}
use Rattle.pp_row.specs.declared.cell.Cell.TheVariants.{Int, Atom, Compound, Var}
use Rattle.pp_row.specs.Cells.{arity_of, IsLegalCell}
use Rattle.pp_row.specs.Reading.{IsForest, from}
use Rattle.pp_row.proofs.Next.{next, count_from}
use Rattle.pp_algebra.proofs.Joined.{count-join, join-join, join-none}
use Rattle.pp_algebra.specs.Terms.{Trees, none, more, count, join}
use Rattle.pp_algebra.specs.Least.{rest, arguments}
use Rattle.pp_heap.specs.declared.spans.Span.{Span}
use Rattle.pp_heap.specs.Values.{cell_at, term_at}
use Rattle.pp_heap.specs.Soundness.{IsCompound}
use Rattle.pp_heap.specs.Spans.{take_trees, span_terms, terms_of, IsSpan}
use Rattle.pp_heap.proofs.Forests.{legal_at}

pub terms_of-push : (heap : List Cell) (ss : List Span) (s : Span) → terms_of heap (ss ++ s ∷ []) ≡ join (span_terms heap s) (terms_of heap ss)
terms_of-push heap [] s = sym (join-none (span_terms heap s))
terms_of-push heap (x ∷ ss) s = ap (λ (z : Trees ℕ). join z (span_terms heap x)) (terms_of-push heap ss s) ∙ sym (join-join (span_terms heap s) (terms_of heap ss) (span_terms heap x))

take-rest : (k : ℕ) (ts : Trees ℕ) → take_trees k (rest ts) ≡ rest (take_trees (suc k) ts)
take-rest zero none = refl
take-rest (suc k) none = refl
take-rest k (more t ts) = refl

take-all : (ps r : Trees ℕ) → take_trees (count ps) (join ps r) ≡ ps
take-all none r = refl
take-all (more p ps) r = ap (more p) (take-all ps r)

pub rest-count : (ts : Trees ℕ) → count ts ≤ suc (count (rest ts))
rest-count none = omega arith
rest-count (more t ts) = omega arith

pub all_push : (heap : List Cell) (ss : List Span) (s : Span) → All (IsSpan heap) ss → IsSpan heap s → All (IsSpan heap) (ss ++ s ∷ [])
all_push heap ss s a h = All-push (IsSpan heap) ss s a h

pub all_pop : (heap : List Cell) (ws ss : List Span) (s : Span) → ws ≡ ss ++ s ∷ [] → All (IsSpan heap) ws → All (IsSpan heap) ss × IsSpan heap s
all_pop heap ws ss s e a = All-pop (IsSpan heap) ws ss (Some s) e a

-- the span of the terms after the first one
pub rest_span : (heap : List Cell) (at n e : ℕ) → IsForest heap → IsSpan heap (record { at = at; count = n }) → 1 < n → from heap e ≡ rest (from heap at) → e ≤ length heap → IsSpan heap (record { at = e; count = n - 1 })
rest_span heap at n e f s h g l =
    let c = count_from heap e f l in
    let b = rest-count (from heap at) in
    let q : count (from heap e) ≡ count (rest (from heap at)) = ap count g in
    let w = s.enough in
    record { some = omega arith; within = omega arith; enough = omega arith }

pub rest_terms : (heap : List Cell) (at n e : ℕ) → 1 < n → from heap e ≡ rest (from heap at) → span_terms heap (record { at = e; count = n - 1 }) ≡ rest (span_terms heap (record { at = at; count = n }))
rest_terms heap at n e h g =
    let q : suc (n - 1) ≡ n = omega arith in
    ap (take_trees (n - 1)) g ∙ take-rest (n - 1) (from heap at) ∙ ap (λ (k : ℕ). rest (take_trees k (from heap at))) q

pub no_rest : (heap : List Cell) (at n : ℕ) → n ≤ 1 → rest (span_terms heap (record { at = at; count = n })) ≡ none
no_rest heap at n h = gone n (from heap at) h
  where
    gone : (n : ℕ) (ts : Trees ℕ) → n ≤ 1 → rest (take_trees n ts) ≡ none
    gone zero ts h = refl
    gone (suc zero) none h = refl
    gone (suc zero) (more t ts) h = refl
    gone (suc (suc n)) ts h = absurd (omega arith)

-- a compound of the heap has arguments
some_arguments : (c : Cell) → IsLegalCell c → IsCompound c → 1 ≤ arity_of c
some_arguments (Int n) l h = absurd h
some_arguments (Atom a) l h = absurd h
some_arguments (Compound f k) l h = l.0
some_arguments (Var v) l h = absurd h

pub argument_span : (heap : List Cell) (p n : ℕ) → IsForest heap → p < length heap → IsCompound (cell_at heap p) → n ≡ arity_of (cell_at heap p) → IsSpan heap (record { at = p + 1; count = n })
argument_span heap p n f l k e =
    let x = next heap p (Int (pos 0)) f l in
    let c = count_from heap (p + 1) f (omega arith) in
    let q : count (from heap (p + 1)) ≡ count (arguments (term_at heap p)) + count (rest (from heap p)) = ap count x.inner ∙ count-join (arguments (term_at heap p)) (rest (from heap p)) in
    let a : count (arguments (term_at heap p)) ≡ n = x.arity ∙ sym e in
    let o = some_arguments (cell_at heap p) (legal_at heap p f l) k in
    record { some = omega arith; within = omega arith; enough = omega arith }

pub argument_terms : (heap : List Cell) (p n : ℕ) → IsForest heap → p < length heap → n ≡ arity_of (cell_at heap p) → span_terms heap (record { at = p + 1; count = n }) ≡ arguments (term_at heap p)
argument_terms heap p n f l e =
    let x = next heap p (Int (pos 0)) f l in
    let a : count (arguments (term_at heap p)) ≡ n = x.arity ∙ sym e in
    ap (take_trees n) x.inner ∙ ap (λ (k : ℕ). take_trees k (join (arguments (term_at heap p)) (rest (from heap p)))) (sym a) ∙ take-all (arguments (term_at heap p)) (rest (from heap p))

take-join : (m : ℕ) (ps r : Trees ℕ) → take_trees (count ps + m) (join ps r) ≡ join ps (take_trees m r)
take-join m none r = ap (λ (z : ℕ). take_trees z r) (omega arith)
take-join m (more p ps) r = let e : suc (count ps) + m ≡ suc (count ps + m) = omega arith in ap (λ (z : ℕ). take_trees z (more p (join ps r))) e ∙ ap (more p) (take-join m ps r)

-- as many terms as the span says, or none
pub record IsPart (heap : List Cell) (s : Span) : Type 0 where
  pub within : s.at ≤ length heap
  pub enough : s.count ≤ count (from heap s.at)

pub part_span : (heap : List Cell) (s : Span) → IsForest heap → IsPart heap s → 1 ≤ s.count → IsSpan heap s
part_span heap s f h l = record { some = l; within = omega (arith, l, h.enough, h.within, count_from heap s.at f h.within); enough = h.enough }

pub span_part : (heap : List Cell) (s : Span) → IsSpan heap s → IsPart heap s
span_part heap s h = record { within = omega (arith, h.within); enough = h.enough }

-- the arguments of a span's first term and the terms after it
module _ (heap : List Cell) (p n k : ℕ) (f : IsForest heap) (s : IsSpan heap (record { at = p; count = n })) (e : k ≡ arity_of (cell_at heap p)) where
  pub inside_part : IsPart heap (record { at = p + 1; count = n - 1 + k })
  inside_part =
      let l : p < length heap = s.within in
      let m : 1 ≤ n = s.some in
      let w : n ≤ count (from heap p) = s.enough in
      let x = next heap p (Int (pos 0)) f l in
      let q : count (from heap (p + 1)) ≡ count (arguments (term_at heap p)) + count (rest (from heap p)) = ap count x.inner ∙ count-join (arguments (term_at heap p)) (rest (from heap p)) in
      let a : count (arguments (term_at heap p)) ≡ k = x.arity ∙ sym e in
      let b : count (from heap p) ≤ suc (count (rest (from heap p))) = rest-count (from heap p) in
      record { within = omega arith; enough = omega arith }

  pub inside_span : IsCompound (cell_at heap p) → IsSpan heap (record { at = p + 1; count = n - 1 + k })
  inside_span h =
      let o = some_arguments (cell_at heap p) (legal_at heap p f s.within) h in
      part_span heap (record { at = p + 1; count = n - 1 + k }) f inside_part (omega (arith, o, e))

  pub inside_terms : span_terms heap (record { at = p + 1; count = n - 1 + k }) ≡ join (arguments (term_at heap p)) (rest (span_terms heap (record { at = p; count = n })))
  inside_terms =
      let x = next heap p (Int (pos 0)) f s.within in
      let m : 1 ≤ n = s.some in
      let a : count (arguments (term_at heap p)) ≡ k = x.arity ∙ sym e in
      let i : n - 1 + k ≡ count (arguments (term_at heap p)) + (n - 1) = omega arith in
      let j : suc (n - 1) ≡ n = omega arith in
      ap (take_trees (n - 1 + k)) x.inner
      ∙ ap (λ (z : ℕ). take_trees z (join (arguments (term_at heap p)) (rest (from heap p)))) i
      ∙ take-join (n - 1) (arguments (term_at heap p)) (rest (from heap p))
      ∙ ap (join (arguments (term_at heap p))) (take-rest (n - 1) (from heap p) ∙ ap (λ (z : ℕ). rest (take_trees z (from heap p))) j)

pub part_fits : (heap : List Cell) (s : Span) → IsForest heap → IsPart heap s → s.count ≤ length heap
part_fits heap s f h = omega (arith, h.within, h.enough, count_from heap s.at f h.within)

pub inside_fits : (heap : List Cell) (s : Span) → IsForest heap → IsSpan heap s → s.count ≤ length heap
inside_fits heap s f h = part_fits heap s f (span_part heap s h)
