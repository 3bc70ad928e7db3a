-- What is met in one turn of a walk: alternatives and built-ins, or one leaf.
use Rattle.std.specs.Prelude.{OnErr}
use Rattle.std.proofs.Common.{◌≡◌, ℕ, zero, suc, ◌+◌, ◌-◌, ◌<◌, ◌≤◌, Bool, true, false, cond, List, [], ◌∷◌, ◌++◌, length, Result, Ok, Err, refl, ap, sym, ◌∙◌, subst, arith, append_assoc, append-nil}
use Rattle.pp_sld.specs.Goals.{Program, Config}
use Rattle.pp_sld.specs.Ways.{Way, choices, next}
use Rattle.pp_sld.specs.Trees.{AreSearches}
use Rattle.pp_sld.specs.Trace.{Mark, tried, ends, trace_all, met, reductions, until}
use Rattle.pp_sld.specs.Paths.{kids, skip}
use Rattle.pp_sld.proofs.Trees.{tree, fails_at, choice_tree, none_at_end}
use Rattle.pp_sld.proofs.LeafRows.{met-append}
use Rattle.pp_algebra.specs.Rows.{Row}
use Rattle.pp_sld.specs.Verdicts.{Mode}
use Rattle.pp_sld.specs.Findings.{finding_of, settled}
use Rattle.pp_sld.specs.Walks.{settled_by}
use Rattle.pp_walk.specs.Moves.{HasChoice, IsDeadAt}
use Rattle.pp_walk.specs.Walking.{IsThinned}
use Rattle.pp_sld.proofs.Walks.{reductions-append}

-- so many reductions
abbrev pub tries : ℕ → List Mark
tries zero = []
tries (suc n) = tried ∷ tries n

pub tries-last : (n : ℕ) (ms : List Mark) → tries n ++ tried ∷ ms ≡ tried ∷ (tries n ++ ms)
tries-last zero ms = refl
tries-last (suc n) ms = ap (λ x. tried ∷ x) (tries-last n ms)

pub length-tries : (n : ℕ) → length (tries n) ≡ n
length-tries zero = refl
length-tries (suc n) = ap suc (length-tries n)

pub met-tries : (n : ℕ) (ms : List Mark) → met (tries n ++ ms) ≡ met ms
met-tries zero ms = refl
met-tries (suc n) ms = met-tries n ms

pub reductions-tries : (n : ℕ) → reductions (tries n) ≡ n
reductions-tries zero = refl
reductions-tries (suc n) = ap suc (reductions-tries n)

pub until-tries : (settled : List Mark → Bool) (n : ℕ) (seen rest : List Mark) → until settled seen (tries n ++ rest) ≡ until settled (seen ++ tries n) rest
until-tries settled zero seen rest = ap (λ x. until settled x rest) (sym (append-nil seen))
until-tries settled (suc n) seen rest = until-tries settled n (seen ++ tried ∷ []) rest ∙ ap (λ x. until settled x rest) (append_assoc seen (tried ∷ []) (tries n))

-- what was seen stays seen
pub until-grows : (settled : List Mark → Bool) (seen ms : List Mark) → reductions seen ≤ reductions (until settled seen ms)
until-grows settled seen [] = omega arith
until-grows settled seen (tried ∷ ms) = omega (arith, until-grows settled (seen ++ tried ∷ []) ms, reductions-append seen (tried ∷ []))
until-grows settled seen (ends l ∷ ms) = pick (settled (seen ++ ends l ∷ [])) (until-grows settled (seen ++ ends l ∷ []) ms)
  where
    pick : (b : Bool) → reductions (seen ++ ends l ∷ []) ≤ reductions (until settled (seen ++ ends l ∷ []) ms) → reductions seen ≤ reductions (cond b (seen ++ ends l ∷ []) (until settled (seen ++ ends l ∷ []) ms))
    pick true h = omega (arith, reductions-append seen (ends l ∷ []))
    pick false h = omega (arith, h, reductions-append seen (ends l ∷ []))

-- ===== reductions that are left out

pub thinned_append : (ms ns xs : List Mark) → IsThinned ms ns → IsThinned (ms ++ xs) (ns ++ xs)
thinned_append ms ns xs h = (met-append ms xs ∙ ap (λ x. x ++ met xs) h.0 ∙ sym (met-append ns xs), omega (arith, h.1, reductions-append ms xs, reductions-append ns xs))

thinned_tries : (ms : List Mark) (n : ℕ) → IsThinned ms (ms ++ tries n)
thinned_tries ms n = (sym (met-append ms (tries n) ∙ ap (λ x. met ms ++ x) (ap met (sym (append-nil (tries n))) ∙ met-tries n []) ∙ append-nil (met ms)), omega (arith, reductions-append ms (tries n)))

module _ (m : Mode) (call : Row) where
  -- of what was seen
  until_thinned : (seen all ms : List Mark) → IsThinned seen all → IsThinned (until (settled_by m call) seen ms) (until (settled_by m call) all ms)
  until_thinned seen all [] h = h
  until_thinned seen all (tried ∷ ms) h = until_thinned (seen ++ tried ∷ []) (all ++ tried ∷ []) ms (thinned_append seen all (tried ∷ []) h)
  until_thinned seen all (ends l ∷ ms) h =
      let k = thinned_append seen all (ends l ∷ []) h in
      subst (λ b. IsThinned (cond (settled_by m call (seen ++ ends l ∷ [])) (seen ++ ends l ∷ []) (until (settled_by m call) (seen ++ ends l ∷ []) ms)) (cond b (all ++ ends l ∷ []) (until (settled_by m call) (all ++ ends l ∷ []) ms)))
      (ap (λ x. settled call (finding_of m x)) k.0)
      (pick (settled_by m call (seen ++ ends l ∷ [])) k (until_thinned (seen ++ ends l ∷ []) (all ++ ends l ∷ []) ms k))
    where
      pick : (b : Bool) → IsThinned (seen ++ ends l ∷ []) (all ++ ends l ∷ []) → IsThinned (until (settled_by m call) (seen ++ ends l ∷ []) ms) (until (settled_by m call) (all ++ ends l ∷ []) ms) → IsThinned (cond b (seen ++ ends l ∷ []) (until (settled_by m call) (seen ++ ends l ∷ []) ms)) (cond b (all ++ ends l ∷ []) (until (settled_by m call) (all ++ ends l ∷ []) ms))
      pick true k i = k
      pick false k i = i

  -- of what is to come
  pub later_thinned : (seen ms : List Mark) (n : ℕ) (later : List Mark) → IsThinned (until (settled_by m call) seen (ms ++ later)) (until (settled_by m call) seen (ms ++ (tries n ++ later)))
  later_thinned seen [] n later = subst (IsThinned (until (settled_by m call) seen later)) (sym (until-tries (settled_by m call) n seen later)) (until_thinned seen (seen ++ tries n) later (thinned_tries seen n))
  later_thinned seen (tried ∷ ms) n later = later_thinned (seen ++ tried ∷ []) ms n later
  later_thinned seen (ends l ∷ ms) n later = pick (settled_by m call (seen ++ ends l ∷ [])) (later_thinned (seen ++ ends l ∷ []) ms n later)
    where
      pick : (b : Bool) → IsThinned (until (settled_by m call) (seen ++ ends l ∷ []) (ms ++ later)) (until (settled_by m call) (seen ++ ends l ∷ []) (ms ++ (tries n ++ later)))
          → IsThinned (cond b (seen ++ ends l ∷ []) (until (settled_by m call) (seen ++ ends l ∷ []) (ms ++ later))) (cond b (seen ++ ends l ∷ []) (until (settled_by m call) (seen ++ ends l ∷ []) (ms ++ (tries n ++ later))))
      pick true i = (refl, omega arith)
      pick false i = i

pub thinned_is : (ms ns : List Mark) → ms ≡ ns → IsThinned ms ns
thinned_is ms ns e = (ap met e, omega (arith, ap reductions e))

pub thinned_twice : (ms ns os : List Mark) → IsThinned ms ns → IsThinned ns os → IsThinned ms os
thinned_twice ms ns os h k = (h.0 ∙ k.0, omega (arith, h.1, k.1))

-- alternatives that are passed over
module _ (clauses : Program) (c : Config) (ws : List Way) (e : next clauses c ≡ choices ws) where
  pub passed_over : (k n : ℕ) → ((i : ℕ) → k ≤ i → i < k + n → IsDeadAt clauses c i) → trace_all (skip k (kids (tree clauses c))) ≡ tries n ++ trace_all (skip (k + n) (kids (tree clauses c)))
  passed_over k zero h = ap (λ x. trace_all (skip x (kids (tree clauses c)))) (omega arith)
  passed_over k (suc n) h =
      let d = h k (omega arith) (omega arith) in
      let g : d.0 ≡ ws = cc (d.1, e) in
      let a : AreSearches clauses d.0 (kids (tree clauses c)) = subst (λ x. AreSearches clauses x (kids (tree clauses c))) (sym g) (choice_tree clauses c ws e).1 in
      fails_at clauses d.0 (kids (tree clauses c)) k d.2 d.3 d.4 a
      ∙ ap (λ x. tried ∷ x) (passed_over (suc k) n (λ i p q. h i (omega (arith, p)) (omega (arith, q)))
      ∙ ap (λ x. tries n ++ trace_all (skip x (kids (tree clauses c)))) (omega arith))

  pub none_left : (k : ℕ) → ((i : ℕ) → k ≤ i → HasChoice clauses c i → IsDeadAt clauses c i) → trace_all (skip k (kids (tree clauses c))) ≡ tries (length ws - k)
  none_left k h =
      passed_over k (length ws - k) (λ i p q. h i p (ws, e, omega (arith, p, q)))
      ∙ ap (λ x. tries (length ws - k) ++ x) (none_at_end clauses ws (kids (tree clauses c)) (k + (length ws - k)) (omega arith) (choice_tree clauses c ws e).1)
      ∙ append-nil (tries (length ws - k))

-- what is promised where there is no memory
pub on_err : {A E P : Type 0} (r : Result A E) → P → OnErr r P
on_err (Ok x) p = tt
on_err (Err e) p = p

pub map_err : {A E P Q : Type 0} (r : Result A E) → (P → Q) → OnErr r P → OnErr r Q
map_err (Ok x) f p = tt
map_err (Err e) f p = f p
