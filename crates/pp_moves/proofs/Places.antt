-- Where variables stand in goals, columns and items.
use Rattle.std.proofs.Common.{◌≡◌, ◌⊎◌, inl, inr, List, [], ◌∷◌, ◌++◌, map, refl, ap, sym, ◌∙◌, subst}
use Rattle.pp_algebra.specs.Terms.{Tree, int, node, Trees, none, more, variable, put, put_all, variables, variables_all}
use Rattle.pp_algebra.specs.Covers.{IsIn}
use Rattle.pp_algebra.specs.Solve.{equation, put_item, equations}
use Rattle.pp_algebra.proofs.Put.{put_all-put_all}
use Rattle.pp_algebra.proofs.Order.{IsIn-left, IsIn-right}
use Rattle.pp_algebra.proofs.Antisym.{put_all-agree, IsIn-either}
use Rattle.pp_sld.specs.Goals.{Goal, put_goal, with_goals}
use Rattle.pp_sld.proofs.Exists.{put-with_goals}

module _ {V : Type 0} where
  -- a variable of the columns
  pub in_columns : (gs : List (Goal V)) (ts : Trees V) (v : V) → IsIn v (variables_all ts) → IsIn v (variables_all (with_goals gs ts))
  in_columns [] ts v i = i
  in_columns (g ∷ gs) ts v i = IsIn-right v (variables_all g.arguments) (variables_all (with_goals gs ts)) (in_columns gs ts v i)

  -- a variable of a goal
  pub in_goals : (gs : List (Goal V)) (ts : Trees V) (v : V) → IsIn v (variables_all (with_goals gs none)) → IsIn v (variables_all (with_goals gs ts))
  in_goals [] ts v i = absurd i
  in_goals (g ∷ gs) ts v i = elim (IsIn-either v (variables_all g.arguments) (variables_all (with_goals gs none)) i) [
    | inl j ↦ IsIn-left v (variables_all g.arguments) (variables_all (with_goals gs ts)) j
    | inr j ↦ IsIn-right v (variables_all g.arguments) (variables_all (with_goals gs ts)) (in_goals gs ts v j)
  ]

  -- of one or the other
  pub in_either : (gs : List (Goal V)) (ts : Trees V) (v : V) → IsIn v (variables_all (with_goals gs ts)) → IsIn v (variables_all (with_goals gs none)) ⊎ IsIn v (variables_all ts)
  in_either [] ts v i = inr i
  in_either (g ∷ gs) ts v i = elim (IsIn-either v (variables_all g.arguments) (variables_all (with_goals gs ts)) i) [
    | inl j ↦ inl (IsIn-left v (variables_all g.arguments) (variables_all (with_goals gs none)) j)
    | inr j ↦ elim (in_either gs ts v j) [
      | inl k ↦ inl (IsIn-right v (variables_all g.arguments) (variables_all (with_goals gs none)) k)
      | inr k ↦ inr k
    ]
  ]

  -- of goals before and of goals after
  pub in_before : (before after : List (Goal V)) (v : V) → IsIn v (variables_all (with_goals before none)) → IsIn v (variables_all (with_goals (before ++ after) none))
  in_before [] after v i = absurd i
  in_before (g ∷ gs) after v i = elim (IsIn-either v (variables_all g.arguments) (variables_all (with_goals gs none)) i) [
    | inl j ↦ IsIn-left v (variables_all g.arguments) (variables_all (with_goals (gs ++ after) none)) j
    | inr j ↦ IsIn-right v (variables_all g.arguments) (variables_all (with_goals (gs ++ after) none)) (in_before gs after v j)
  ]

  pub in_after : (before after : List (Goal V)) (v : V) → IsIn v (variables_all (with_goals after none)) → IsIn v (variables_all (with_goals (before ++ after) none))
  in_after [] after v i = i
  in_after (g ∷ gs) after v i = IsIn-right v (variables_all g.arguments) (variables_all (with_goals (gs ++ after) none)) (in_after gs after v i)

  pub in_parts : (before after : List (Goal V)) (v : V) → IsIn v (variables_all (with_goals (before ++ after) none)) → IsIn v (variables_all (with_goals before none)) ⊎ IsIn v (variables_all (with_goals after none))
  in_parts [] after v i = inr i
  in_parts (g ∷ gs) after v i = elim (IsIn-either v (variables_all g.arguments) (variables_all (with_goals (gs ++ after) none)) i) [
    | inl j ↦ inl (IsIn-left v (variables_all g.arguments) (variables_all (with_goals gs none)) j)
    | inr j ↦ elim (in_parts gs after v j) [
      | inl k ↦ inl (IsIn-right v (variables_all g.arguments) (variables_all (with_goals gs none)) k)
      | inr k ↦ inr k
    ]
  ]

  pub in_first : (g : Goal V) (gs : List (Goal V)) (v : V) → IsIn v (variables_all g.arguments) → IsIn v (variables_all (with_goals (g ∷ gs) none))
  in_first g gs v i = IsIn-left v (variables_all g.arguments) (variables_all (with_goals gs none)) i

  pub in_rest : (g : Goal V) (gs : List (Goal V)) (v : V) → IsIn v (variables_all (with_goals gs none)) → IsIn v (variables_all (with_goals (g ∷ gs) none))
  in_rest g gs v i = IsIn-right v (variables_all g.arguments) (variables_all (with_goals gs none)) i

  -- two substitutions that agree on the variables of goals
  pub goal-agree : {W : Type 0} (r s : V → Tree W) (g : Goal V) → ((v : V) → IsIn v (variables_all g.arguments) → r v ≡ s v) → put_goal r g ≡ put_goal s g
  goal-agree {W} r s g h = ap (λ ts. let x : Goal W = record { shape = g.shape; arguments = ts } in x) (put_all-agree r s g.arguments h)

  pub goals-agree : {W : Type 0} (r s : V → Tree W) (gs : List (Goal V)) → ((v : V) → IsIn v (variables_all (with_goals gs none)) → r v ≡ s v) → map (put_goal r) gs ≡ map (put_goal s) gs
  goals-agree r s [] h = refl
  goals-agree r s (g ∷ gs) h =
      let first = goal-agree r s g (λ v i. h v (in_first g gs v i)) in
      let rest = goals-agree r s gs (λ v i. h v (in_rest g gs v i)) in
      ap (λ x. x ∷ map (put_goal r) gs) first ∙ ap (λ xs. put_goal s g ∷ xs) rest

-- one substitution after another
pub goal-put : {U V W : Type 0} (r : V → Tree W) (s : U → Tree V) (g : Goal U) → put_goal r (put_goal s g) ≡ put_goal (λ v. put r (s v)) g
goal-put {U} {V} {W} r s g = ap (λ ts. let x : Goal W = record { shape = g.shape; arguments = ts } in x) (put_all-put_all r s g.arguments)

pub goals-put : {U V W : Type 0} (r : V → Tree W) (s : U → Tree V) (gs : List (Goal U)) → map (put_goal r) (map (put_goal s) gs) ≡ map (put_goal (λ v. put r (s v))) gs
goals-put r s [] = refl
goals-put r s (g ∷ gs) = ap (λ x. x ∷ map (put_goal r) (map (put_goal s) gs)) (goal-put r s g) ∙ ap (λ xs. put_goal (λ v. put r (s v)) g ∷ xs) (goals-put r s gs)

pub equations-put : {V W : Type 0} (s : V → Tree W) (ts us : Trees V) → map (put_item s) (equations ts us) ≡ equations (put_all s ts) (put_all s us)
equations-put s none us = refl
equations-put s (more t ts) none = refl
equations-put s (more t ts) (more u us) = ap (λ is. equation (put s t) (put s u) ∷ is) (equations-put s ts us)

mutual
  -- a variable under a substitution comes from a variable
  pub comes_from : {V W : Type 0} (s : V → Tree W) (t : Tree V) (w : W) → IsIn w (variables (put s t)) → (v : V) × IsIn v (variables t) × IsIn w (variables (s v))
  comes_from s (int n) w i = absurd i
  comes_from s (node f ts) w i = comes_all s ts w i
  comes_from s (variable v) w i = (v, inl refl, i)

  pub comes_all : {V W : Type 0} (s : V → Tree W) (ts : Trees V) (w : W) → IsIn w (variables_all (put_all s ts)) → (v : V) × IsIn v (variables_all ts) × IsIn w (variables (s v))
  comes_all s none w i = absurd i
  comes_all s (more t ts) w i = elim (IsIn-either w (variables (put s t)) (variables_all (put_all s ts)) i) [
    | inl j ↦ let a = comes_from s t w j in (a.0, IsIn-left a.0 (variables t) (variables_all ts) a.1, a.2)
    | inr j ↦ let a = comes_all s ts w j in (a.0, IsIn-right a.0 (variables t) (variables_all ts) a.1, a.2)
  ]

-- of goals
pub comes_goals : {V W : Type 0} (s : V → Tree W) (gs : List (Goal V)) (w : W) → IsIn w (variables_all (with_goals (map (put_goal s) gs) none)) → (v : V) × IsIn v (variables_all (with_goals gs none)) × IsIn w (variables (s v))
comes_goals s gs w i = comes_all s (with_goals gs none) w (subst (λ ts. IsIn w (variables_all ts)) (sym (put-with_goals s gs none)) i)
