-- A step of a walk over terms that are still to be seen.
use Rattle.std.proofs.Common.{◌≡◌, ℕ, zero, suc, ◌+◌, ◌<◌, ◌≤◌, pos, List, [], ◌∷◌, ◌++◌, length, refl, ap, sym, ◌∙◌, subst, arith, append_assoc, inl, inr}
use Rattle.std.specs.Prelude.{◌↔◌}
use Rattle.pp_row.specs.declared.cell.Cell.{Cell}
use Rattle.pp_row.specs.declared.cell.Cell.TheVariants.{Int}
use Rattle.pp_row.specs.Reading.{IsForest, from}
use Rattle.pp_row.proofs.Next.{next, cell_of}
use Rattle.pp_algebra.specs.Terms.{Tree, int, node, variable, Trees, none, more, put, put_all, count, variables, variables_all, join, size}
use Rattle.pp_algebra.specs.Covers.{IsIn}
use Rattle.pp_algebra.specs.Least.{first, rest, arguments}
use Rattle.pp_heap.specs.declared.spans.Span.{Span}
use Rattle.pp_heap.specs.declared.state.Value as Values
use Rattle.pp_heap.specs.declared.state.Value.TheVariants as Value
use Rattle.pp_heap.specs.Values.{cell_at, term_at, value_term}
use Rattle.pp_heap.specs.Soundness.{IsCompound}
use Rattle.pp_heap.specs.Spans.{take_trees, span_terms, terms_of, IsSpan, sizes}
use Rattle.pp_heap.proofs.Forests.{term_cell}
use Rattle.pp_heap.proofs.Work.{terms_of-push}

abbrev pub vars : (ℕ → Tree ℕ) → Trees ℕ → List ℕ
vars s ts = variables_all (put_all s ts)

pub vars-join : (s : ℕ → Tree ℕ) (ts us : Trees ℕ) → vars s (join ts us) ≡ vars s ts ++ vars s us
vars-join s none us = refl
vars-join s (more t ts) us = ap (λ (l : List ℕ). variables (put s t) ++ l) (vars-join s ts us) ∙ sym (append_assoc (variables (put s t)) (vars s ts) (vars s us))

pub sizes-join : (s : ℕ → Tree ℕ) (ts us : Trees ℕ) → sizes s (join ts us) ≡ sizes s ts + sizes s us
sizes-join s none us = omega arith
sizes-join s (more t ts) us = omega (arith, sizes-join s ts us)

pub one : (t : Tree ℕ) → 1 ≤ size t
one (int n) = omega arith
one (node f ts) = omega arith
one (variable v) = omega arith

pub take_first : (n : ℕ) (ts : Trees ℕ) → 1 ≤ n → n ≤ count ts → take_trees n ts ≡ more (first ts) (rest (take_trees n ts))
take_first zero ts h k = absurd (omega arith)
take_first (suc n) none h k = absurd (omega arith)
take_first (suc n) (more t ts) h k = refl

-- the terms before the last span was taken
pub popped : (heap : List Cell) (ws ss : List Span) (s : Span) → ws ≡ ss ++ s ∷ [] → IsSpan heap s → terms_of heap ws ≡ more (term_at heap s.at) (join (rest (span_terms heap s)) (terms_of heap ss))
popped heap ws ss s e h = ap (terms_of heap) e ∙ terms_of-push heap ss s ∙ ap (λ (z : Trees ℕ). join z (terms_of heap ss)) (take_first s.count (from heap s.at) h.some h.enough)

pub one_span : (heap : List Cell) (p : ℕ) → IsForest heap → p < length heap → IsSpan heap (record { at = p; count = 1 })
one_span heap p f l = let x = next heap p (Int (pos 0)) f l in let e = ap count x.some in record { some = omega arith; within = l; enough = omega (arith, e) }

-- of a term that is no variable
pub record IsOpened (s : ℕ → Tree ℕ) (t : Tree ℕ) : Type 0 where
  pub variables : variables (put s t) ≡ vars s (arguments t)
  pub size : size (put s t) ≡ suc (sizes s (arguments t))

opened : (s : ℕ → Tree ℕ) (t : Tree ℕ) → IsCompound (cell_of t) → IsOpened s t
opened s (int n) h = record { variables = refl; size = refl }
opened s (node f ts) h = record { variables = refl; size = refl }
opened s (variable v) h = absurd h

pub opened_at : (s : ℕ → Tree ℕ) (heap : List Cell) (p : ℕ) → IsForest heap → p < length heap → IsCompound (cell_at heap p) → IsOpened s (term_at heap p)
opened_at s heap p f l h = opened s (term_at heap p) (subst IsCompound (sym (term_cell heap p f l)) h)

-- the walk passes another variable
pub walked_free : (s : ℕ → Tree ℕ) (r : Trees ℕ) (t : Tree ℕ) (x y : ℕ) → put s t ≡ variable y → (y ≡ x → ⊥) → IsIn x (vars s r) ↔ IsIn x (vars s (more t r))
walked_free s r t x y e h = rw e ((λ i. inr i), back)
  where
    back : IsIn x ((y ∷ []) ++ vars s r) → IsIn x (vars s r)
    back (inl i) = absurd (h i)
    back (inr i) = i

-- or a term without variables
pub walked_ground : (s : ℕ → Tree ℕ) (r : Trees ℕ) (t u : Tree ℕ) → put s t ≡ put s u → variables (put s u) ≡ [] → vars s (more t r) ≡ vars s r
walked_ground s r t u e h = rw (e, h) refl

-- or puts off the arguments
pub walked_term : (s : ℕ → Tree ℕ) (r : Trees ℕ) (t u : Tree ℕ) → put s t ≡ put s u → IsOpened s u → vars s (more t r) ≡ vars s (join (arguments u) r)
walked_term s r t u e o = rw (e, o.variables, vars-join s (arguments u) r) refl

pub sizes_less : (s : ℕ → Tree ℕ) (r : Trees ℕ) (t : Tree ℕ) → sizes s r < sizes s (more t r)
sizes_less s r t = let o = one (put s t) in omega arith

pub sizes_term : (s : ℕ → Tree ℕ) (r : Trees ℕ) (t u : Tree ℕ) → put s t ≡ put s u → IsOpened s u → sizes s (join (arguments u) r) < sizes s (more t r)
sizes_term s r t u e o = omega (arith, sizes-join s (arguments u) r, ap size e, o.size)

-- a value that is neither a variable nor a compound has no variables
pub no_variables : (s : ℕ → Tree ℕ) (heap : List Cell) (c : Values.Value) → ((w : ℕ) → c ≡ Value.Variable w → ⊥) → ((p : ℕ) → c ≡ Value.Compound p → ⊥) → variables (put s (value_term heap c)) ≡ []
no_variables s heap (Value.Variable w) h k = absurd (h w refl)
no_variables s heap (Value.Int n) h k = refl
no_variables s heap (Value.Atom a) h k = refl
no_variables s heap (Value.Compound p) h k = absurd (k p refl)

-- the terms before a span was taken: its first one, and what the work has then
pub taken : (heap : List Cell) (ws ss now : List Span) (s : Span) → ws ≡ ss ++ s ∷ [] → IsSpan heap s → terms_of heap now ≡ join (rest (span_terms heap s)) (terms_of heap ss) → terms_of heap ws ≡ more (term_at heap s.at) (terms_of heap now)
taken heap ws ss now s e h t = popped heap ws ss s e h ∙ ap (more (term_at heap s.at)) (sym t)
