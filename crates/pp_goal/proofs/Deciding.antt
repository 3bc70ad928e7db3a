-- What a built-in decides about the arguments of a goal.
use Rattle.std.proofs.Common.{◌≡◌, ℕ, ◌+◌, List, [], ◌∷◌, Option, ap, sym, ◌∙◌}
use Rattle.pp_algebra.specs.Terms.{Tree, variable, Trees, count}
use Rattle.pp_algebra.specs.Rows.{Domain, Row}
use Rattle.pp_algebra.specs.Givens.{Given, given, givens}
use Rattle.pp_algebra.specs.Numbered.{column}
use Rattle.pp_algebra.proofs.Put.{count-put_all}
use Rattle.pp_row.specs.Reading.{forest}
use Rattle.pp_sld.specs.BuiltIns.{Decision, Test, decide}
use Rattle.pp_unify.specs.States.{value_in}
use Rattle.pp_clause.specs.declared.goal_at.GoalAt.{GoalAt}
use Rattle.pp_goal.specs.Arguments.{terms_of, terms_in}
use Rattle.pp_goal.proofs.Places.{one_given, two_givens, three_givens}

pub count-terms : (r : Row) (g : GoalAt) (n k : ℕ) → count (forest g.arguments.now) ≡ k → count (terms_in r g n) ≡ k
count-terms r g n k e =
    let s : ℕ → Tree ℕ = λ v. variable (n + v) in
    count-put_all (value_in r) (terms_of g n) ∙ count-put_all s (forest g.arguments.now) ∙ e

pub decides_one : (ds : List (Option Domain)) (ts : Trees ℕ) (t : Test) (x : Given) (d : Decision) → count ts ≡ 1 → x ≡ given ds (column ts 0) → d ≡ decide t (x ∷ []) → d ≡ decide t (givens ds ts)
decides_one ds ts t x d n a e = e ∙ ap (λ z. decide t (z ∷ [])) a ∙ ap (decide t) (sym (one_given ds ts n))

pub decides_two : (ds : List (Option Domain)) (ts : Trees ℕ) (t : Test) (x y : Given) (d : Decision) → count ts ≡ 2 → x ≡ given ds (column ts 0) → y ≡ given ds (column ts 1) → d ≡ decide t (x ∷ y ∷ []) → d ≡ decide t (givens ds ts)
decides_two ds ts t x y d n a b e = e ∙ ap (λ z. decide t (z ∷ y ∷ [])) a ∙ ap (λ z. decide t (given ds (column ts 0) ∷ z ∷ [])) b ∙ ap (decide t) (sym (two_givens ds ts n))

pub decides_three : (ds : List (Option Domain)) (ts : Trees ℕ) (t : Test) (x y w : Given) (d : Decision) → count ts ≡ 3 → x ≡ given ds (column ts 0) → y ≡ given ds (column ts 1) → w ≡ given ds (column ts 2) → d ≡ decide t (x ∷ y ∷ w ∷ []) → d ≡ decide t (givens ds ts)
decides_three ds ts t x y w d n a b c e =
    e ∙ ap (λ z. decide t (z ∷ y ∷ w ∷ [])) a ∙ ap (λ z. decide t (given ds (column ts 0) ∷ z ∷ w ∷ [])) b ∙ ap (λ z. decide t (given ds (column ts 0) ∷ given ds (column ts 1) ∷ z ∷ [])) c ∙ ap (decide t) (sym (three_givens ds ts n))
