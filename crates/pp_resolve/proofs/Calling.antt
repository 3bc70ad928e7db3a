-- From a clause's head that was made equal to a goal's arguments to where the clause's way leads.
use Rattle.std.proofs.Common.{◌≡◌, ℕ, ◌+◌, ◌<◌, ◌⊎◌, inl, inr, List, [], ◌∷◌, ◌++◌, length, map, All, ap, sym, ◌∙◌, subst, arith}
use Rattle.std.proofs.lemmas.List.{map-append}
use Rattle.std.proofs.lemmas.List.Elements.{All-nil, All-cons}
use Rattle.pp_algebra.specs.Terms.{Tree, Trees, none, more, put_all, variables, variables_all, count}
use Rattle.pp_algebra.specs.Rows.{Row, IsRow}
use Rattle.pp_algebra.specs.Covers.{IsIn}
use Rattle.pp_algebra.specs.Solve.{Item, equation, put_item, equations}
use Rattle.pp_algebra.proofs.Order.{IsIn-left, IsIn-right}
use Rattle.pp_sld.specs.Goals.{Goal, Clause, Config, put_goal, with_goals}
use Rattle.pp_sld.specs.Ways.{old, new, around, Leads, IsDead, clause_way}
use Rattle.pp_moves.specs.Numbered.{terms_of, number_in}
use Rattle.pp_sld.proofs.Exists.{put-with_goals}
use Rattle.pp_moves.proofs.Places.{in_columns, in_goals, in_before, in_after, in_first, in_rest, equations-put, comes_all}
use Rattle.pp_moves.proofs.Moved.{call_columns, call_items, calls_are_numbered}
use Rattle.pp_moves.proofs.TwoKinds.{as_number, AreOld, AllOld}
use Rattle.pp_unify.specs.States.{value_in}
use Rattle.pp_unify.specs.Laws.{item_in, IsItemOver, AreSolved, OneHasNone}
use Rattle.pp_resolve.specs.Standing.{counted, standing, config_in}
use Rattle.pp_unify.specs.Forests.{AreOver}
use Rattle.pp_resolve.proofs.Fresh.{HasFresh}
use Rattle.pp_resolve.proofs.Steps.{value_below, items_old, left, step_leads, step_dead, old_columns, new_columns}

pub equations_over : (p : Row) (ts us : Trees ℕ) → AreOver p ts → AreOver p us → All (IsItemOver p) (equations ts us)
equations_over p none us f g = All-nil (IsItemOver p)
equations_over p (more t ts) none f g = All-nil (IsItemOver p)
equations_over p (more t ts) (more u us) f g =
    All-cons (IsItemOver p) (equation t u) (equations ts us)
    ((λ v i. f v (IsIn-left v (variables t) (variables_all ts) i)), (λ v i. g v (IsIn-left v (variables u) (variables_all us) i)))
    (equations_over p ts us (λ v i. f v (IsIn-right v (variables t) (variables_all ts) i)) (λ v i. g v (IsIn-right v (variables u) (variables_all us) i)))

module _ (r : Row) (row : IsRow r) (before : List (Goal ℕ)) (g : Goal ℕ) (after : List (Goal ℕ)) (calls : Trees ℕ) (over : AreOver r (with_goals (before ++ g ∷ after) calls)) (deep : ℕ) where
  abbrev c0 : Config
  c0 = standing r (before ++ g ∷ after) calls deep

  abbrev bf : List (Goal ℕ)
  bf = map (put_goal (value_in r)) before

  abbrev g0 : Goal ℕ
  g0 = put_goal (value_in r) g

  abbrev af : List (Goal ℕ)
  af = map (put_goal (value_in r)) after

  parts : c0.goals ≡ bf ++ g0 ∷ af
  parts = map-append (put_goal (value_in r)) before (g ∷ after)

  pub over_goals : AreOver r (with_goals (before ++ g ∷ after) none)
  over_goals v i = over v (in_goals (before ++ g ∷ after) calls v i)

  pub over_before : AreOver r (with_goals before none)
  over_before v i = over_goals v (in_before before (g ∷ after) v i)

  pub over_after : AreOver r (with_goals after none)
  over_after v i = over_goals v (in_after before (g ∷ after) v (in_rest g after v i))

  pub over_goal : AreOver r g.arguments
  over_goal v i = over_goals v (in_after before (g ∷ after) v (in_first g after v i))

  pub over_calls : AreOver r calls
  over_calls v i = over v (in_columns (before ++ g ∷ after) calls v i)

  -- the variables of the standing configuration are those of the row
  pub stand_below : (u : ℕ) → IsIn u (variables_all (terms_of c0)) → u < length r.domains
  stand_below u i =
      let f = comes_all (value_in r) (with_goals (before ++ g ∷ after) calls) u (subst (λ ts. IsIn u (variables_all ts)) (sym (put-with_goals (value_in r) (before ++ g ∷ after) calls)) i) in
      value_below r row f.0 u (over f.0 f.1) f.2

  module _ (k : ℕ) (p : Row) (fresh : HasFresh r k p) (depth : ℕ) (cl : Clause) (head : (v : ℕ) → IsIn v (variables_all cl.head) → v < k) (body : (v : ℕ) → IsIn v (variables_all (with_goals cl.body none)) → v < k) where
    abbrev n : ℕ
    n = count r.columns

    abbrev num : ℕ ⊎ ℕ → Tree ℕ
    num = as_number (length r.domains)

    abbrev items : List (Item ℕ)
    items = equations (put_all (counted n) cl.head) g.arguments

    abbrev is : List (Item (ℕ ⊎ ℕ))
    is = equations (put_all new cl.head) (put_all old g0.arguments)

    same_items : map (put_item num) is ≡ map (item_in p) items
    same_items =
        equations-put num (put_all new cl.head) (put_all old g0.arguments)
        ∙ ap (λ ts. equations ts (put_all num (put_all old g0.arguments))) (new_columns r row k p fresh before cl.body after calls depth over_before over_after over_calls body cl.head head)
        ∙ ap (equations (put_all (value_in p) (put_all (counted n) cl.head))) (old_columns r row k p fresh before cl.body after calls depth over_before over_after over_calls body g.arguments over_goal)
        ∙ sym (equations-put (value_in p) (put_all (counted n) cl.head) g.arguments)

    is_counted : (v u : ℕ) → v < k → IsIn u ((n + v) ∷ []) → u < count p.columns
    is_counted v u l (inl e) = omega (arith, l, e, fresh.size)
    is_counted v u l (inr j) = absurd j

    over_items : All (IsItemOver p) items
    over_items = equations_over p (put_all (counted n) cl.head) g.arguments
        (λ u i. let f = comes_all (counted n) cl.head u i in is_counted f.0 u (head f.0 f.1) f.2)
        (λ u i. omega (arith, fresh.size, over_goal u i))

    old_us : AreOld (length r.domains) (with_goals (around bf (map (put_goal new) cl.body) af) (put_all old c0.columns))
    old_us v i = stand_below v (call_columns c0 row.wide bf g0 af parts depth cl v i)

    old_is : AllOld (length r.domains) is
    old_is = items_old (length r.domains) (terms_of c0) stand_below is (call_items c0 row.wide bf g0 af parts depth cl)

    pub call_leads : (q : Row) → AreSolved p items q
        → Leads (clause_way (config_in r (before ++ g ∷ after) calls deep) (map (put_goal (number_in c0)) bf) (put_goal (number_in c0) g0) (map (put_goal (number_in c0)) af) depth cl) (config_in q (left r row k p fresh before cl.body after calls depth) calls depth)
    call_leads q a =
        (calls_are_numbered c0 row.wide bf g0 af parts depth cl).0 (config_in q (left r row k p fresh before cl.body after calls depth) calls depth)
        (step_leads r row k p fresh before cl.body after calls depth over_before over_after over_calls body is items same_items over_items old_us old_is q a)

    pub call_dead : OneHasNone p items
        → IsDead (clause_way (config_in r (before ++ g ∷ after) calls deep) (map (put_goal (number_in c0)) bf) (put_goal (number_in c0) g0) (map (put_goal (number_in c0)) af) depth cl)
    call_dead a =
        (calls_are_numbered c0 row.wide bf g0 af parts depth cl).1
        (step_dead r row k p fresh before cl.body after calls depth over_before over_after over_calls body is items same_items over_items old_us old_is a)
