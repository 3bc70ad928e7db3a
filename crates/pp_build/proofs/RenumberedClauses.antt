-- What a clause stands for once its variables are numbered by first occurrence, and that it stays well formed.
use Rattle.std.proofs.Common.{◌≡◌, ℕ, suc, ◌<◌, true, false, ◌||◌, List, [], ◌∷◌, ◌++◌, length, map, refl, ap, sym, ◌∙◌, subst, inl, inr, arith}
use Rattle.std.specs.Prelude.{All, cond, nat_eq}
use Rattle.std.specs.List.{flat_map}
use Rattle.std.proofs.Math.ListN.{length-map}
use Rattle.std.proofs.lemmas.List.Elements.{All-nil, All-cons, All-head, All-tail}
use Rattle.pp_algebra.specs.Terms.{Tree, put, put_all, variables, variables_all}
use Rattle.pp_algebra.specs.Canon.{has, place, firsts}
use Rattle.pp_algebra.specs.Covers.{IsIn}
use Rattle.pp_algebra.proofs.Order.{variables_all-put_all, IsIn-left, IsIn-right}
use Rattle.pp_algebra.proofs.CanonLemmas.{nat_eq-IsSame, has-all}
use Rattle.pp_algebra.proofs.Renamed.{comes_from}
use Rattle.pp_sld.specs.Goals as goals
use Rattle.pp_row.specs.Columns.{trees_of}
use Rattle.pp_row.proofs.ColumnLists.{put-trees_of}
use Rattle.pp_term.specs.declared.clause.Goal.{Goal}
use Rattle.pp_term.specs.declared.clause.Goal.TheVariants.{Call, Equate, Member, Compare}
use Rattle.pp_term.specs.declared.clause.Clause.{Clause}
use Rattle.pp_term.specs.Meanings.{goal_of, clause_of, predicate_of}
use Rattle.pp_term.specs.WellFormed.{AreBelow, IsGoal, IsClause}
use Rattle.pp_build.specs.Renumbered.{variables_in, goal_variables, clause_variables, placed, put_goal, put_clause, renumbered}

-- ===== meanings

arguments-put : (s : ℕ → Tree ℕ) (g : Goal) → goal_of (put_goal s g) ≡ goals.put_goal s (goal_of g)
arguments-put s (Call h ts) = rw (← put-trees_of s ts) refl
arguments-put s (Equate a b) = refl
arguments-put s (Member t d) = refl
arguments-put s (Compare r a b) = refl

goals-put : (s : ℕ → Tree ℕ) (gs : List Goal) → map goal_of (map (put_goal s) gs) ≡ map (goals.put_goal s) (map goal_of gs)
goals-put s [] = refl
goals-put s (g ∷ gs) = rw (arguments-put s g, goals-put s gs) refl

variables_of_goal : (g : Goal) → goal_variables g ≡ variables_all (goal_of g).arguments
variables_of_goal (Call h ts) = refl
variables_of_goal (Equate a b) = refl
variables_of_goal (Member t d) = refl
variables_of_goal (Compare r a b) = refl

variables_of_goals : (gs : List Goal) → flat_map goal_variables gs ≡ flat_map (λ g. variables_all g.arguments) (map goal_of gs)
variables_of_goals [] = refl
variables_of_goals (g ∷ gs) = rw (variables_of_goal g, variables_of_goals gs) refl

-- the variables of a clause, as its meaning has them
pub variables_of_clause : (c : Clause) → clause_variables c ≡ variables_all (trees_of c.head) ++ flat_map (λ g. variables_all g.arguments) (map goal_of c.body)
variables_of_clause c = ap (λ vs. variables_in c.head ++ vs) (variables_of_goals c.body)

abbrev pub meaning : goals.Predicate → goals.Clause → goals.Predicate × goals.Clause
meaning p c = (p, c)

abbrev pub clause_with : (ℕ → Tree ℕ) → goals.Clause → goals.Clause
clause_with s c = record { head = put_all s c.head; body = map (goals.put_goal s) c.body }

pub clause-put : (s : ℕ → Tree ℕ) (c : Clause) → clause_of (put_clause s c) ≡ meaning (predicate_of c.pred) (clause_with s (clause_of c).1)
clause-put s c = rw (← put-trees_of s c.head, goals-put s c.body) refl

-- ===== forms

place-within : (vs : List ℕ) (v : ℕ) → has nat_eq vs v ≡ true → place nat_eq vs v < length vs
place-within [] v h = absurd (cc)
place-within (x ∷ vs) v h = elim (nat_eq x v) as (λ b. (b || has nat_eq vs v) ≡ true → cond b 0 (suc (place nat_eq vs v)) < suc (length vs)) [ true ↦ λ h. omega arith | false ↦ λ h. let r = place-within vs v h in omega arith ] h

module _ (vs : List ℕ) where
  abbrev Stand : List ℕ → Type 0
  Stand ws = (v : ℕ) → IsIn v ws → has nat_eq vs v ≡ true

  terms_below : (ts : List (Tree ℕ)) → Stand (variables_in ts) → AreBelow (length vs) (map (put (placed vs)) ts)
  terms_below ts h = λ v i.
      let renamed = ap (λ us. variables_all us) (sym (put-trees_of (placed vs) ts)) ∙ variables_all-put_all (placed vs) (trees_of ts) in
      let j = comes_from (λ w. variables (placed vs w)) (variables_in ts) v (subst (IsIn v) renamed i) in
      came v j.0 (h j.0 j.1) j.2
    where
      came : (v w : ℕ) → has nat_eq vs w ≡ true → IsIn v (place nat_eq vs w ∷ []) → v < length vs
      came v w h (inl e) = omega (arith, e, place-within vs w h)
      came v w h (inr i) = absurd i

  goal_formed : (n : ℕ) (g : Goal) → IsGoal n g → Stand (goal_variables g) → IsGoal (length vs) (put_goal (placed vs) g)
  goal_formed n (Call s ts) f h = record { count = length-map ts (put (placed vs)) ∙ f.count; below = terms_below ts h }
  goal_formed n (Equate a b) f h = terms_below (a ∷ b ∷ []) h
  goal_formed n (Member t d) f h = terms_below (t ∷ []) h
  goal_formed n (Compare r a b) f h = terms_below (a ∷ b ∷ []) h

  goals_formed : (n : ℕ) (gs : List Goal) → All (IsGoal n) gs → Stand (flat_map goal_variables gs) → All (IsGoal (length vs)) (map (put_goal (placed vs)) gs)
  goals_formed n [] f h = All-nil (IsGoal (length vs))
  goals_formed n (g ∷ gs) f h =
      All-cons (IsGoal (length vs)) (put_goal (placed vs) g) (map (put_goal (placed vs)) gs)
      (goal_formed n g (All-head (IsGoal n) g gs f) (λ v i. h v (IsIn-left v (goal_variables g) (flat_map goal_variables gs) i)))
      (goals_formed n gs (All-tail (IsGoal n) g gs f) (λ v i. h v (IsIn-right v (goal_variables g) (flat_map goal_variables gs) i)))

pub renumbered_formed : (c : Clause) → IsClause c → c.vars ≡ length (firsts nat_eq [] (clause_variables c)) → IsClause (renumbered c)
renumbered_formed c f e =
    let vs = firsts nat_eq [] (clause_variables c) in
    let rest = flat_map goal_variables c.body in
    let stand = has-all nat_eq nat_eq-IsSame [] (clause_variables c) in
    record {
      head = record {
        count = length-map c.head (put (placed vs)) ∙ f.head.count;
        below = subst (λ n. AreBelow n (map (put (placed vs)) c.head)) (sym e) (terms_below vs c.head (λ v i. stand v (IsIn-left v (variables_in c.head) rest i)));
      };
      body = subst (λ n. All (IsGoal n) (map (put_goal (placed vs)) c.body)) (sym e) (goals_formed vs c.vars c.body f.body (λ v i. stand v (IsIn-right v (variables_in c.head) rest i)));
    }
