-- The annotated goals of a query from a place of its items on.
use Rattle.std.proofs.Common.{◌≡◌, ℕ, zero, suc, ◌+◌, ◌-◌, ◌<◌, ◌≤◌, List, [], ◌∷◌, length, get_or, drop, map, Some, None, refl, ap, sym, ◌∙◌, subst, arith}
use Rattle.std.proofs.lemmas.List.{drop_more}
use Rattle.std.proofs.lemmas.List.Elements.{All-get_or}
use Rattle.pp_algebra.specs.Terms.{Tree, variables_all}
use Rattle.pp_algebra.specs.Covers.{IsIn}
use Rattle.pp_propagation.specs.Stores.{Asked, goals_of}
use Rattle.pp_propagation.specs.Turns.{goal_at}
use Rattle.pp_row.specs.Columns.{trees_of}
use Rattle.pp_term.specs.declared.pred.Mode.{Mode}
use Rattle.pp_term.specs.declared.pred.Shape.{Shape}
use Rattle.pp_term.specs.declared.query.Item.{Item}
use Rattle.pp_term.specs.declared.query.Item.TheVariants.{Equate, Member, Infer}
use Rattle.pp_term.specs.Meanings.{shape_of, mode_of}
use Rattle.pp_term.specs.WellFormed.{AreBelow, IsItem, IsQuery}
use Rattle.pp_term.specs.declared.query.Query.{Query}
use Rattle.pp_query.specs.Meanings.{item_of}
use Rattle.pp_store.specs.Queries.{goals_in, IsGoalIn}

abbrev pub goals_from : List Item → List Asked
goals_from es = goals_of (map item_of es)

abbrev pub asked_of : Shape → List (Tree ℕ) → Mode → Asked
asked_of s ts m = record { goal = record { shape = shape_of s; arguments = trees_of ts }; mode = mode_of m }

abbrev pub IsNoGoal : Item → Type 0
IsNoGoal (Equate a b) = Unit {0}
IsNoGoal (Member t d) = Unit {0}
IsNoGoal (Infer s ts m) = ⊥

pub no_goal_by : (e : Item) → ((s : Shape) (ts : List (Tree ℕ)) (m : Mode) → e ≡ Infer s ts m → ⊥) → IsNoGoal e
no_goal_by (Equate a b) h = tt
no_goal_by (Member t d) h = tt
no_goal_by (Infer s ts m) h = h s ts m refl

passed : (e : Item) (es : List Item) → IsNoGoal e → goals_from (e ∷ es) ≡ goals_from es
passed (Equate a b) es h = refl
passed (Member t d) es h = refl
passed (Infer s ts m) es h = absurd h

module _ (es : List Item) (k : ℕ) (e d : Item) (l : k < length es) (is : e ≡ get_or es k d) where
  here : drop k es ≡ e ∷ drop (k + 1) es
  here = drop_more es k d l ∙ ap (λ x. x ∷ drop (k + 1) es) (sym is)

  pub with_goal : (s : Shape) (ts : List (Tree ℕ)) (m : Mode) → e ≡ Infer s ts m → goals_from (drop k es) ≡ asked_of s ts m ∷ goals_from (drop (k + 1) es)
  with_goal s ts m f = ap (λ xs. goals_from xs) here ∙ ap (λ x. goals_from (x ∷ drop (k + 1) es)) f

  pub without_goal : IsNoGoal e → goals_from (drop k es) ≡ goals_from (drop (k + 1) es)
  without_goal h = ap (λ xs. goals_from xs) here ∙ passed e (drop (k + 1) es) h

none_zero : (gs : List Asked) → goal_at gs 0 ≡ None
none_zero [] = refl
none_zero (a ∷ gs) = refl

-- a goal that isn't the one that is looked for
pub counted_down : (a : Asked) (gs : List Asked) (n : ℕ) → (n ≡ 1 → ⊥) → goal_at (a ∷ gs) n ≡ goal_at gs (n - 1)
counted_down a gs zero h = sym (none_zero gs)
counted_down a gs (suc zero) h = absurd (h refl)
counted_down a gs (suc (suc n)) h = ap (goal_at gs) (omega arith)

pub goal_there : (gs : List Asked) (k : ℕ) → 1 ≤ k → k ≤ length gs → (a : Asked) × (goal_at gs k ≡ Some a)
goal_there [] k l m = absurd (omega (arith, l, m))
goal_there (a ∷ later) zero l m = absurd (omega (arith, l))
goal_there (a ∷ later) (suc zero) l m = (a, refl)
goal_there (a ∷ later) (suc (suc k)) l m = goal_there later (suc k) (omega arith) (omega (arith, m))

pub not_nowhere : (q : Query) (k : ℕ) → IsGoalIn q k → goal_at (goals_in q) k ≡ None → ⊥
not_nowhere q k h e = let a = goal_there (goals_in q) k h.0 h.1 in let f : Some a.0 ≡ None = sym a.1 ∙ e in absurd (cc (f))

pub some_asked : (a b : Asked) (gs : List Asked) (k : ℕ) → goal_at gs k ≡ Some a → goal_at gs k ≡ Some b → a ≡ b
some_asked a b gs k e f = let g : Some a ≡ Some b = sym e ∙ f in cc (g)

-- the arguments of a well-formed query's goal are over its variables
pub goal_below : (q : Query) (k : ℕ) (e : Item) → k < length q.items → e ≡ get_or q.items k e → IsQuery q → (s : Shape) (ts : List (Tree ℕ)) (m : Mode) → e ≡ Infer s ts m → (n : ℕ) (us : List (Tree ℕ)) → n ≡ q.vars → us ≡ ts → AreBelow n us
goal_below q k e l is h s ts m f n us g u =
    let whole : IsItem q.vars e = subst (IsItem q.vars) (sym is) (All-get_or (IsItem q.vars) q.items k e l h.items) in
    let formed : IsItem q.vars (Infer s ts m) = subst (IsItem q.vars) f whole in
    λ v i. subst (λ x. v < x) (sym g) (formed.below v (subst (λ xs. IsIn v (variables_all (trees_of xs))) u i))
