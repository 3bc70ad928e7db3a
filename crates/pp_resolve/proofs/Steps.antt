-- From items that are solved on the bindings to where a way leads.
use Rattle.std.proofs.Common.{◌≡◌, ℕ, zero, suc, ◌+◌, ◌<◌, ◌⊎◌, inl, inr, List, [], ◌∷◌, ◌++◌, length, map, All, refl, ap, sym, ◌∙◌, subst, arith}
use Rattle.std.specs.Prelude.{nat_eq}
use Rattle.std.proofs.lemmas.List.{map-append}
use Rattle.pp_algebra.specs.Terms.{Tree, Trees, none, more, variable, put, put_all, variables, variables_all, count}
use Rattle.pp_algebra.specs.Rows.{Row, domain_at, pattern_of, IsRow}
use Rattle.pp_algebra.specs.Covers.{IsIn}
use Rattle.pp_algebra.specs.Canon.{canon}
use Rattle.pp_algebra.specs.Solve.{Item, equation, membership, put_item, IsSolved, HasNone}
use Rattle.pp_algebra.specs.Stages.{pattern, ItemsSpeakOf}
use Rattle.pp_algebra.proofs.Put.{put-variable, put_all-put_all, count-put_all}
use Rattle.pp_algebra.proofs.Antisym.{put_all-agree}
use Rattle.pp_algebra.proofs.Numbered.{column-put, numbered_below}
use Rattle.pp_algebra.proofs.Order.{IsIn-left, IsIn-right}
use Rattle.pp_algebra.proofs.Solving.{for_some, none_for_any}
use Rattle.pp_sld.specs.Goals.{Goal, put_goal, with_goals, shapes, row_of}
use Rattle.pp_sld.specs.Ways.{Way, two_domains, old, new, around, Leads, IsDead}
use Rattle.pp_moves.specs.Numbered.{terms_of, number_in}
use Rattle.pp_sld.proofs.Exists.{put-with_goals, shapes-put}
use Rattle.pp_moves.proofs.Places.{in_either, in_parts, goals-agree, goals-put, comes_all, comes_goals}
use Rattle.pp_moves.proofs.Moved.{row_numbered}
use Rattle.pp_moves.proofs.TwoKinds.{anys, as_number, AreOld, AllOld, kinds_solved, kinds_none}
use Rattle.pp_algebra.specs.Numbered.{column}
use Rattle.pp_unify.specs.States.{value_in}
use Rattle.pp_unify.specs.Laws.{item_in, IsItemOver, AreSolved, OneHasNone}
use Rattle.pp_unify.proofs.Turns.{solved_in_turn}
use Rattle.pp_resolve.specs.Standing.{counted, standing, config_in}
use Rattle.pp_unify.specs.Forests.{AreOver}
use Rattle.pp_resolve.proofs.Fresh.{HasFresh}

-- ===== the values of a row

in_column : (ts : Trees ℕ) (v w : ℕ) → v < count ts → IsIn w (variables (column ts v)) → IsIn w (variables_all ts)
in_column none v w l i = absurd (omega arith)
in_column (more t ts) zero w l i = IsIn-left w (variables t) (variables_all ts) i
in_column (more t ts) (suc v) w l i = IsIn-right w (variables t) (variables_all ts) (in_column ts v w (omega arith) i)

-- the variables of a value are those of the row
pub value_below : (r : Row) → IsRow r → (v w : ℕ) → v < count r.columns → IsIn w (variables (value_in r v)) → w < length r.domains
value_below r row v w l i = numbered_below (variables_all r.columns) 0 (length r.domains) w row.canonical (in_column r.columns v w l i)

shapes-append : {V : Type 0} (gs hs : List (Goal V)) → shapes (gs ++ hs) ≡ shapes gs ++ shapes hs
shapes-append gs hs = map-append (λ g. g.shape) gs hs

pub items_old : (n : ℕ) (ts : Trees ℕ) → ((u : ℕ) → IsIn u (variables_all ts) → u < n) → (is : List (Item (ℕ ⊎ ℕ))) → ItemsSpeakOf {U = ℕ} {W = ℕ} ts is → AllOld n is
items_old n ts h [] s = tt
items_old n ts h (equation a b ∷ is) s = ((λ v i. h v (s.0 v i)), (λ v i. h v (s.1 v i)), items_old n ts h is s.2)
items_old n ts h (membership t d ∷ is) s = ((λ v i. h v (s.0 v i)), items_old n ts h is s.1)

-- ===== a step

module _ (r : Row) (row : IsRow r) (k : ℕ) (p : Row) (fresh : HasFresh r k p) (before body after : List (Goal ℕ)) (calls : Trees ℕ) (depth : ℕ) where
  abbrev n : ℕ
  n = count r.columns

  abbrev m : ℕ
  m = length r.domains

  -- the goals that are left
  abbrev pub left : List (Goal ℕ)
  left = before ++ map (put_goal (counted n)) body ++ after

  abbrev raw : Trees ℕ
  raw = with_goals left calls

  abbrev bf : List (Goal ℕ)
  bf = map (put_goal (value_in r)) before

  abbrev af : List (Goal ℕ)
  af = map (put_goal (value_in r)) after

  abbrev columns : Trees ℕ
  columns = put_all (value_in r) calls

  abbrev goals : List (Goal (ℕ ⊎ ℕ))
  goals = around bf (map (put_goal new) body) af

  abbrev us : Trees (ℕ ⊎ ℕ)
  us = with_goals goals (put_all old columns)

  abbrev num : ℕ ⊎ ℕ → Tree ℕ
  num = as_number m

  module _ (over_before : AreOver r (with_goals before none)) (over_after : AreOver r (with_goals after none)) (over_calls : AreOver r calls) (below : (v : ℕ) → IsIn v (variables_all (with_goals body none)) → v < k) where
    old_goals : (gs : List (Goal ℕ)) → AreOver r (with_goals gs none) → map (put_goal num) (map (put_goal old) (map (put_goal (value_in r)) gs)) ≡ map (put_goal (value_in p)) gs
    old_goals gs o =
        goals-put num old (map (put_goal (value_in r)) gs)
        ∙ goals-put variable (value_in r) gs
        ∙ goals-agree (λ v. put variable (value_in r v)) (value_in p) gs (λ v i. put-variable (value_in r v) ∙ sym (fresh.old v (o v i)))

    pub old_columns : (xs : Trees ℕ) → AreOver r xs → put_all num (put_all old (put_all (value_in r) xs)) ≡ put_all (value_in p) xs
    old_columns xs o =
        put_all-put_all num old (put_all (value_in r) xs)
        ∙ put_all-put_all variable (value_in r) xs
        ∙ put_all-agree (λ v. put variable (value_in r v)) (value_in p) xs (λ v i. put-variable (value_in r v) ∙ sym (fresh.old v (o v i)))

    new_goals : map (put_goal num) (map (put_goal new) body) ≡ map (put_goal (value_in p)) (map (put_goal (counted n)) body)
    new_goals =
        goals-put num new body
        ∙ goals-agree (λ v. variable (m + v)) (λ v. value_in p (n + v)) body (λ v i. sym (fresh.new v (below v i)))
        ∙ sym (goals-put (value_in p) (counted n) body)

    pub new_columns : (xs : Trees ℕ) → ((v : ℕ) → IsIn v (variables_all xs) → v < k) → put_all num (put_all new xs) ≡ put_all (value_in p) (put_all (counted n) xs)
    new_columns xs b =
        put_all-put_all num new xs
        ∙ put_all-agree (λ v. variable (m + v)) (λ v. value_in p (n + v)) xs (λ v i. sym (fresh.new v (b v i)))
        ∙ sym (put_all-put_all (value_in p) (counted n) xs)

    goals_same : map (put_goal num) goals ≡ map (put_goal (value_in p)) left
    goals_same =
        map-append (put_goal num) (map (put_goal old) bf ++ map (put_goal new) body) (map (put_goal old) af)
        ∙ ap (λ xs. xs ++ map (put_goal num) (map (put_goal old) af)) (map-append (put_goal num) (map (put_goal old) bf) (map (put_goal new) body))
        ∙ ap (λ xs. xs ++ map (put_goal num) (map (put_goal new) body) ++ map (put_goal num) (map (put_goal old) af)) (old_goals before over_before)
        ∙ ap (λ xs. map (put_goal (value_in p)) before ++ xs ++ map (put_goal num) (map (put_goal old) af)) new_goals
        ∙ ap (λ xs. map (put_goal (value_in p)) before ++ map (put_goal (value_in p)) (map (put_goal (counted n)) body) ++ xs) (old_goals after over_after)
        ∙ ap (λ xs. xs ++ map (put_goal (value_in p)) after) (sym (map-append (put_goal (value_in p)) before (map (put_goal (counted n)) body)))
        ∙ sym (map-append (put_goal (value_in p)) (before ++ map (put_goal (counted n)) body) after)

    -- goals and columns of the way, numbered, are those that are left, with all bindings in place
    same : put_all num us ≡ put_all (value_in p) raw
    same =
        put-with_goals num goals (put_all old columns)
        ∙ ap (λ gs. with_goals gs (put_all num (put_all old columns))) goals_same
        ∙ ap (with_goals (map (put_goal (value_in p)) left)) (old_columns calls over_calls)
        ∙ sym (put-with_goals (value_in p) left calls)

    is_counted : (v u : ℕ) → v < k → IsIn u ((n + v) ∷ []) → u < count p.columns
    is_counted v u l (inl e) = omega (arith, l, e, fresh.size)
    is_counted v u l (inr j) = absurd j

    -- what is left is over the row with the fresh variables
    pub over_left : AreOver p raw
    over_left v i =
        let c = fresh.size in
        elim (in_either left calls v i) [
          | inl j ↦ elim (in_parts (before ++ map (put_goal (counted n)) body) after v j) [
            | inl a ↦ elim (in_parts before (map (put_goal (counted n)) body) v a) [
              | inl b ↦ omega (arith, c, over_before v b)
              | inr b ↦ let f = comes_goals (counted n) body v b in is_counted f.0 v (below f.0 f.1) f.2
            ]
            | inr a ↦ omega (arith, c, over_after v a)
          ]
          | inr j ↦ omega (arith, c, over_calls v j)
        ]

    -- the columns of p hold them
    held : (v : ℕ) → IsIn v (variables_all (put_all (value_in p) raw)) → IsIn v (variables_all p.columns)
    held v i = let f = comes_all (value_in p) raw v i in in_column p.columns f.0 v (over_left f.0 f.1) f.2

    module _ (is : List (Item (ℕ ⊎ ℕ))) (items : List (Item ℕ)) (same_items : map (put_item num) is ≡ map (item_in p) items) (over_items : All (IsItemOver p) items) (old_us : AreOld m us) (old_is : AllOld m is) where
      turns : ((q : Row) → AreSolved p items q → IsSolved (pattern_of p) (map (item_in p) items) q) × (OneHasNone p items → HasNone (pattern_of p) (map (item_in p) items))
      turns = let t = solved_in_turn p items fresh.row over_items in ((λ q a. (t.0 q).0 a), λ a. t.1.0 a)

      in_kinds : (q : Row) → IsSolved (pattern (put_all (value_in p) raw) (domain_at p.domains)) (map (item_in p) items) q → IsSolved (pattern us (two_domains r.domains)) is q
      in_kinds q s =
          let ds : p.domains ≡ r.domains ++ anys k = fresh.domains in
          kinds_solved r.domains k us is old_us old_is q
          (subst (λ js. IsSolved (pattern (put_all num us) (domain_at (r.domains ++ anys k))) js q) (sym same_items)
          (subst (λ xs. IsSolved (pattern xs (domain_at (r.domains ++ anys k))) (map (item_in p) items) q) (sym same)
          (subst (λ es. IsSolved (pattern (put_all (value_in p) raw) (domain_at es)) (map (item_in p) items) q) ds s)))

      none_in_kinds : HasNone (pattern (put_all (value_in p) raw) (domain_at p.domains)) (map (item_in p) items) → HasNone (pattern us (two_domains r.domains)) is
      none_in_kinds s =
          let ds : p.domains ≡ r.domains ++ anys k = fresh.domains in
          kinds_none r.domains k us is old_us old_is
          (subst (λ js. HasNone (pattern (put_all num us) (domain_at (r.domains ++ anys k))) js) (sym same_items)
          (subst (λ xs. HasNone (pattern xs (domain_at (r.domains ++ anys k))) (map (item_in p) items)) (sym same)
          (subst (λ es. HasNone (pattern (put_all (value_in p) raw) (domain_at es)) (map (item_in p) items)) ds s)))

      abbrev way : Way
      way = record { goals = goals; columns = put_all old columns; domains = r.domains; items = is; depth = depth }

      pub step_dead : OneHasNone p items → IsDead way
      step_dead a = none_in_kinds (none_for_any p.columns (put_all (value_in p) raw) (domain_at p.domains) (map (item_in p) items) (turns.1 a))

      module _ (q : Row) (a : AreSolved p items q) where
        solved : IsSolved (pattern_of p) (map (item_in p) items) q
        solved = turns.0 q a

        value : (v : ℕ) → v < count p.columns → put solved.meets.by (value_in p v) ≡ value_in q v
        value v l = sym (column-put solved.meets.by p.columns v l) ∙ ap (λ ts. column ts v) solved.meets.columns

        values : put_all solved.meets.by (put_all (value_in p) raw) ≡ terms_of (standing q left calls depth)
        values =
            put_all-put_all solved.meets.by (value_in p) raw
            ∙ put_all-agree (λ v. put solved.meets.by (value_in p v)) (value_in q) raw (λ v i. value v (over_left v i))
            ∙ put-with_goals (value_in q) left calls

        step_solved : IsSolved (pattern us (two_domains r.domains)) is (row_of (config_in q left calls depth))
        step_solved =
            let s = for_some p.columns (put_all (value_in p) raw) (domain_at p.domains) (map (item_in p) items) q solved held in
            let e : canon nat_eq (pattern (put_all solved.meets.by (put_all (value_in p) raw)) (domain_at q.domains)) ≡ row_of (config_in q left calls depth) =
            ap (λ xs. canon nat_eq (pattern xs (domain_at q.domains))) values ∙ row_numbered (standing q left calls depth) in
            in_kinds (row_of (config_in q left calls depth)) (subst (IsSolved (pattern (put_all (value_in p) raw) (domain_at p.domains)) (map (item_in p) items)) e s)

        shapes_left : shapes (config_in q left calls depth).goals ≡ shapes goals
        shapes_left =
            shapes-put (number_in (standing q left calls depth)) (map (put_goal (value_in q)) left)
            ∙ shapes-put (value_in q) left
            ∙ sym (shapes-put (value_in p) left)
            ∙ ap shapes (sym goals_same)
            ∙ shapes-put num goals

        pub step_leads : Leads way (config_in q left calls depth)
        step_leads = record {
          solved = step_solved;
          goals = shapes_left;
          columns = count-put_all (number_in (standing q left calls depth)) (put_all (value_in q) calls) ∙ count-put_all (value_in q) calls ∙ sym (count-put_all (value_in r) calls) ∙ sym (count-put_all old columns);
          depth = refl;
        }
