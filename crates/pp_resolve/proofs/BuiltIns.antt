-- Items of a built-in that were solved on the bindings, with goals that wait before it.
use Rattle.std.proofs.Common.{◌≡◌, ℕ, ◌<◌, ◌⊎◌, List, [], ◌∷◌, ◌++◌, length, map, All, refl, ◌∙◌}
use Rattle.std.proofs.lemmas.List.{map-append}
use Rattle.pp_algebra.specs.Terms.{Tree, Trees, put, put_all}
use Rattle.pp_algebra.specs.Rows.{Row, IsRow}
use Rattle.pp_algebra.specs.Covers.{IsIn}
use Rattle.pp_algebra.specs.Solve.{Item, equation, membership, put_item}
use Rattle.pp_algebra.proofs.Put.{put-put, put-variable}
use Rattle.pp_sld.specs.Goals.{Goal, Config, put_goal, with_goals}
use Rattle.pp_sld.specs.Ways.{old, around, Leads, IsDead, built_in_way}
use Rattle.pp_moves.specs.Numbered.{terms_of, numbered, number_in}
use Rattle.pp_moves.specs.Laws.{ItemsStand}
use Rattle.pp_moves.proofs.Moved.{columns_speak, old_items_speak, in_front, behind, built_ins_are_numbered}
use Rattle.pp_moves.proofs.TwoKinds.{as_number, AreOld, AllOld}
use Rattle.pp_unify.specs.States.{value_in}
use Rattle.pp_unify.specs.Laws.{item_in, IsItemOver, AreSolved, OneHasNone}
use Rattle.pp_resolve.specs.Standing.{standing, config_in}
use Rattle.pp_unify.specs.Forests.{AreOver}
use Rattle.pp_resolve.proofs.Fresh.{no_fresh}
use Rattle.pp_resolve.proofs.Steps.{items_old, left, step_leads, step_dead}
use Rattle.pp_resolve.proofs.Calling.{stand_below, over_before, over_after, over_calls}

module _ (r : Row) (row : IsRow r) (before : List (Goal ℕ)) (g : Goal ℕ) (after : List (Goal ℕ)) (calls : Trees ℕ) (deep : ℕ) (over : AreOver r (with_goals (before ++ g ∷ after) calls)) (js : List (Item ℕ)) (over_items : All (IsItemOver r) js) where
  abbrev c0 : Config
  c0 = standing r (before ++ g ∷ after) calls deep

  abbrev bf : List (Goal ℕ)
  bf = map (put_goal (value_in r)) before

  abbrev g0 : Goal ℕ
  g0 = put_goal (value_in r) g

  abbrev af : List (Goal ℕ)
  af = map (put_goal (value_in r)) after

  parts : c0.goals ≡ bf ++ g0 ∷ af
  parts = map-append (put_goal (value_in r)) before (g ∷ after)

  abbrev placed : List (Item ℕ)
  placed = map (item_in r) js

  abbrev is : List (Item (ℕ ⊎ ℕ))
  is = map (put_item old) placed

  abbrev num : ℕ ⊎ ℕ → Tree ℕ
  num = as_number (length r.domains)

  same_term : (t : Tree ℕ) → put num (put old t) ≡ t
  same_term t = put-put num old t ∙ put-variable t

  same_items : (xs : List (Item ℕ)) → map (put_item num) (map (put_item old) xs) ≡ xs
  same_items [] = refl
  same_items (equation a b ∷ xs) = rw (same_term a, same_term b, same_items xs) refl
  same_items (membership t d ∷ xs) = rw (same_term t, same_items xs) refl

  no_body : (v : ℕ) → IsIn {V = ℕ} v [] → v < 0
  no_body v i = absurd i

  module _ (stand : ItemsStand c0 placed) where
    old_us : AreOld (length r.domains) (with_goals (around bf [] af) (put_all old c0.columns))
    old_us v i = stand_below r row before g after calls over deep v (columns_speak c0 row.wide bf [] af (in_front c0 row.wide bf g0 af parts) (behind c0 row.wide bf g0 af parts) v i)

    old_is : AllOld (length r.domains) is
    old_is = items_old (length r.domains) (terms_of c0) (stand_below r row before g after calls over deep) is (old_items_speak c0 row.wide bf [] af (in_front c0 row.wide bf g0 af parts) (behind c0 row.wide bf g0 af parts) placed stand)

    -- where the built-in's way leads
    pub built_in_leads : (q : Row) → AreSolved r js q → Leads (built_in_way (numbered c0) (map (put_goal (number_in c0)) bf) (map (put_goal (number_in c0)) af) (map (put_item (number_in c0)) placed)) (config_in q (left r row 0 r (no_fresh r row) before [] after calls deep) calls deep)
    built_in_leads q a =
        (built_ins_are_numbered c0 row.wide bf g0 af parts placed stand).0 (config_in q (left r row 0 r (no_fresh r row) before [] after calls deep) calls deep)
        (step_leads r row 0 r (no_fresh r row) before [] after calls deep (over_before r row before g after calls over deep) (over_after r row before g after calls over deep) (over_calls r row before g after calls over deep) no_body is js (same_items placed) over_items old_us old_is q a)

    pub built_in_dead : OneHasNone r js → IsDead (built_in_way (numbered c0) (map (put_goal (number_in c0)) bf) (map (put_goal (number_in c0)) af) (map (put_item (number_in c0)) placed))
    built_in_dead a =
        (built_ins_are_numbered c0 row.wide bf g0 af parts placed stand).1
        (step_dead r row 0 r (no_fresh r row) before [] after calls deep (over_before r row before g after calls over deep) (over_after r row before g after calls over deep) (over_calls r row before g after calls over deep) no_body is js (same_items placed) over_items old_us old_is a)
