-- Cells that are terms by themselves are whole terms.
use Rattle.std.proofs.Common.{◌≡◌, ℕ, ◌+◌, ◌<◌, List, [], ◌∷◌, length, All, Some, refl, ap, sym, ◌∙◌, subst, inl, inr, arith}
use Rattle.std.proofs.lemmas.Int.{ints}
use Rattle.std.proofs.lemmas.List.Elements.{All-nil, All-cons, All-head, All-tail}
use Rattle.std.specs.Option.{option_and_then}
use Rattle.pp_algebra.specs.Terms.{Tree, int, node, variable, Trees, none, more, variables, variables_all, count}
use Rattle.pp_algebra.specs.Rows.{Row}
use Rattle.pp_algebra.specs.Covers.{IsIn}
use Rattle.pp_row.specs.declared.cell.Cell.{Cell}
use Rattle.pp_row.specs.declared.cell.Cell.TheVariants.{Int, Atom, Compound, Var}
use Rattle.pp_row.specs.Cells.{IsLegalCell}
use Rattle.pp_row.specs.Reading.{stack, step, all_of, forest, IsForest}
use Rattle.pp_unify.proofs.Among.{comes_from_all}
use Rattle.pp_unify.specs.Forests.{counted_all, AreOver}
use Rattle.pp_clause.specs.declared.goal_at.GoalAt.{GoalAt}
use Rattle.pp_goal.specs.Arguments.{HasArity, IsLent}
use Rattle.pp_goal_tests.specs.Plain.{IsPlain}

legal : (n : ℕ) (c : Cell) → IsPlain n c → IsLegalCell c
legal n (Int k) h = record { at_least = omega (arith, ints, h.0); at_most = omega (arith, ints, h.1) }
legal n (Atom a) h = tt
legal n (Compound f k) h = absurd h
legal n (Var v) h = tt

all_legal : (n : ℕ) (cs : List Cell) → All (IsPlain n) cs → All IsLegalCell cs
all_legal n [] h = All-nil IsLegalCell
all_legal n (c ∷ cs) h = All-cons IsLegalCell c cs (legal n c (All-head (IsPlain n) c cs h)) (all_legal n cs (All-tail (IsPlain n) c cs h))

abbrev leaf : Cell → Tree ℕ
leaf (Int k) = int k
leaf (Atom a) = node a none
leaf (Compound f k) = node f none
leaf (Var v) = variable v

abbrev leaves : List Cell → Trees ℕ
leaves [] = none
leaves (c ∷ cs) = more (leaf c) (leaves cs)

one_step : (n : ℕ) (c : Cell) (ts : Trees ℕ) → IsPlain n c → step c ts ≡ Some (more (leaf c) ts)
one_step n (Int k) ts h = refl
one_step n (Atom a) ts h = refl
one_step n (Compound f k) ts h = absurd h
one_step n (Var v) ts h = refl

reads : (n : ℕ) (cs : List Cell) → All (IsPlain n) cs → stack cs ≡ Some (leaves cs)
reads n [] h = refl
reads n (c ∷ cs) h = ap (option_and_then (step c)) (reads n cs (All-tail (IsPlain n) c cs h)) ∙ one_step n c (leaves cs) (All-head (IsPlain n) c cs h)

count-leaves : (cs : List Cell) → count (leaves cs) ≡ length cs
count-leaves [] = refl
count-leaves (c ∷ cs) = let i = count-leaves cs in omega (arith, i)

leaf_below : (n : ℕ) (c : Cell) (v : ℕ) (ts : Trees ℕ) → IsPlain n c → (IsIn v (variables_all ts) → v < n) → IsIn v (variables_all (more (leaf c) ts)) → v < n
leaf_below n (Int k) v ts h f i = f i
leaf_below n (Atom a) v ts h f i = f i
leaf_below n (Compound g k) v ts h f i = absurd h
leaf_below n (Var w) v ts h f (inl e) = omega (arith, h, e)
leaf_below n (Var w) v ts h f (inr i) = f i

below : (n : ℕ) (cs : List Cell) (v : ℕ) → All (IsPlain n) cs → IsIn v (variables_all (leaves cs)) → v < n
below n [] v h i = absurd i
below n (c ∷ cs) v h i = leaf_below n c v (leaves cs) (All-head (IsPlain n) c cs h) (λ j. below n cs v (All-tail (IsPlain n) c cs h) j) i

pub plain_forest : (n : ℕ) (cs : List Cell) → All (IsPlain n) cs → forest cs ≡ leaves cs
plain_forest n cs h = ap all_of (reads n cs h)

same_variable : (n w v : ℕ) → v < n → IsIn w (variables {V = ℕ} (variable (0 + v))) → w < n
same_variable n w v l (inl e) = omega (arith, l, e)
same_variable n w v l (inr i) = absurd i

pub plain_is_lent : (r : Row) (g : GoalAt) (n : ℕ) → n ≡ count r.columns → All (IsPlain n) g.arguments.now → HasArity g.kind (length g.arguments.now) → IsLent r g 0
plain_is_lent r g n e h a =
    let cs = g.arguments.now in
    let f = plain_forest n cs h in
    record {
      whole = record { legal = all_legal n cs h; reads = reads n cs h ∙ ap Some (sym f) };
      over = λ w i.
          let o = comes_from_all (λ v. variable (0 + v)) (forest cs) w i in
          subst (λ m. w < m) e (same_variable n w o.0 (below n cs o.0 h (subst (λ ts. IsIn o.0 (variables_all ts)) f o.1)) o.2);
      arity = subst (HasArity g.kind) (sym (ap count f ∙ count-leaves cs)) a;
    }
