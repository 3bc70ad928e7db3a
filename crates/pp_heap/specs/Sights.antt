-- What the occurs check has seen, and what is left to see.
use Rattle.std.specs.Prelude.{ℕ, ◌<◌, ◌↔◌, Bool, true, false, List}
use Rattle.pp_algebra.specs.Terms.{Tree, Trees, more, put, put_all, variables, variables_all, join}
use Rattle.pp_algebra.specs.Covers.{IsIn}
use Rattle.pp_algebra.specs.Least.{arguments}
use Rattle.pp_heap.specs.declared.spans.Span.{Span}
use Rattle.pp_heap.specs.declared.state.State.{State}
use Rattle.pp_heap.specs.Stores.{solution}
use Rattle.pp_heap.specs.Spans.{terms_of, sizes}

-- the variables of the terms, with all bindings in place
abbrev pub seen_in : State → Trees ℕ → List ℕ
seen_in t ts = variables_all (put_all (solution t) ts)

-- x is in the terms us where it is in the terms ts, and they are less to walk
pub record IsLeft (t : State) (x : ℕ) (ts us : Trees ℕ) : Type 0 where
  pub same : IsIn x (seen_in t us) ↔ IsIn x (seen_in t ts)
  pub less : sizes (solution t) us < sizes (solution t) ts

-- the top of the term u is x, or it isn't and its arguments are left with the new work
abbrev pub HasSeen : State → ℕ → Tree ℕ → List Span → List Span → Bool → Type 0
HasSeen t x u old new true = IsIn x (variables (put (solution t) u))
HasSeen t x u old new false = (ts : Trees ℕ) → IsLeft t x (more u (join ts (terms_of t.heap.items old))) (join (arguments u) (join ts (terms_of t.heap.items new)))

-- x is in the terms, or it is in them and the old work where it is in the new work
abbrev pub HasSeenAll : State → ℕ → Trees ℕ → List Span → List Span → Bool → Type 0
HasSeenAll t x us old new true = IsIn x (seen_in t (join us (terms_of t.heap.items old)))
HasSeenAll t x us old new false = IsLeft t x (join us (terms_of t.heap.items old)) (terms_of t.heap.items new)
