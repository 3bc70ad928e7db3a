-- How many trees stand on the stack.
use Rattle.std.proofs.Common.{◌≡◌, ℕ, zero, suc, ◌+◌, ◌-◌, ◌<◌, ◌≤◌, List, [], ◌∷◌, length, drop, Option, Some, None, option_map, option_and_then, refl, ap, ◌∙◌, arith, drop-cons, get_or}
use Rattle.pp_row.specs.declared.cell.Cell.{Cell}
use Rattle.pp_row.specs.declared.cell.Cell.TheVariants.{Int, Atom, Compound, Var}
use Rattle.pp_algebra.specs.Terms.{node, Trees, none, more, count}
use Rattle.pp_row.specs.Cells.{arity_of}
use Rattle.pp_row.specs.Reading.{split, step, stack}

split-few : (k : ℕ) (ts : Trees ℕ) → count ts < k → split k ts ≡ None
split-few zero ts h = absurd (omega arith)
split-few (suc k) none h = refl
split-few (suc k) (more t ts) h = ap (option_map (λ p. (more t p.0, p.1))) (split-few k ts (omega arith))

split-count : (k : ℕ) (ts : Trees ℕ) → k ≤ count ts → (p : Trees ℕ × Trees ℕ) × (split k ts ≡ Some p) × (count p.1 ≡ count ts - k)
split-count zero ts h = ((none, ts), refl, omega arith)
split-count (suc k) none h = absurd (omega arith)
split-count (suc k) (more t ts) h =
    let r = split-count k ts (omega arith) in
    ((more t r.0.0, r.0.1), ap (option_map (λ p. (more t p.0, p.1))) r.1, omega (arith, r.2))

step-few : (c : Cell) (ts : Trees ℕ) → count ts < arity_of c → step c ts ≡ None
step-few (Int n) ts h = absurd (omega arith)
step-few (Atom a) ts h = absurd (omega arith)
step-few (Compound f k) ts h = ap (option_map (λ p. more (node f p.0) p.1)) (split-few k ts h)
step-few (Var v) ts h = absurd (omega arith)

step-count : (c : Cell) (ts : Trees ℕ) → arity_of c ≤ count ts → option_map count (step c ts) ≡ Some (count ts - arity_of c + 1)
step-count (Int n) ts h = ap Some (omega arith)
step-count (Atom a) ts h = ap Some (omega arith)
step-count (Compound f k) ts h =
    let r = split-count k ts h in
    ap (λ o. option_map count (option_map (λ p. more (node f p.0) p.1) o)) r.1 ∙ ap Some (omega (arith, r.2))
step-count (Var v) ts h = ap Some (omega arith)

stack-none : (cs : List Cell) (i : ℕ) → stack (drop i cs) ≡ None → stack cs ≡ None
stack-none cs zero h = h
stack-none [] (suc i) h = h
stack-none (c ∷ cs) (suc i) h = ap (option_and_then (step c)) (stack-none cs i h)

pub then-few : (o : Option (Trees ℕ)) (c : Cell) (n : ℕ) → option_map count o ≡ Some n → n < arity_of c → option_and_then (step c) o ≡ None
then-few None c n h k = cc
then-few (Some ts) c n h k = step-few c ts (let e : count ts ≡ n = cc in omega arith)

pub then-count : (o : Option (Trees ℕ)) (c : Cell) (n : ℕ) → option_map count o ≡ Some n → arity_of c ≤ n → option_map count (option_and_then (step c) o) ≡ Some (n - arity_of c + 1)
then-count None c n h k = cc
then-count (Some ts) c n h k = let e : count ts ≡ n = cc in rw (← e) (step-count c ts (omega arith))

pub stops : (cs : List Cell) (i j n : ℕ) (d : Cell) → j ≡ suc i → i < length cs → option_map count (stack (drop j cs)) ≡ Some n → n < arity_of (get_or cs i d) → stack cs ≡ None
stops cs i j n d s h e few = stack-none cs i (rw (drop-cons cs i d) (then-few (stack (drop (suc i) cs)) (get_or cs i d) n (rw s at e) few))

pub grows : (cs : List Cell) (i j n : ℕ) (d : Cell) → j ≡ suc i → i < length cs → option_map count (stack (drop j cs)) ≡ Some n → arity_of (get_or cs i d) ≤ n → option_map count (stack (drop i cs)) ≡ Some (n - arity_of (get_or cs i d) + 1)
grows cs i j n d s h e enough = rw (drop-cons cs i d) (then-count (stack (drop (suc i) cs)) (get_or cs i d) n (rw s at e) enough)
