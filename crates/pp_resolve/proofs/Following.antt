-- What follows goals over bindings: by the leftmost goal that doesn't wait, with those before it and after it.
use Rattle.std.proofs.Common.{◌≡◌, ℕ, ℤ, zero, suc, ◌<◌, ◌≤◌, inl, inr, true, false, List, [], ◌∷◌, ◌++◌, length, map, All, Some, None, refl, ap, sym, ◌∙◌, subst, arith, append-nil, append_assoc, length-append}
use Rattle.std.specs.Prelude.{option_map}
use Rattle.std.specs.List.{slice_get}
use Rattle.std.proofs.lemmas.Option.{slice_get-map}
use Rattle.std.proofs.lemmas.List.{map-append}
use Rattle.std.proofs.lemmas.List.Elements.{All-head, All-tail, All-nil, All-cons, All-append}
use Rattle.pp_algebra.specs.Terms.{Tree, int, Trees, none, more, variable, put_all, variables, variables_all, count, join}
use Rattle.pp_algebra.specs.Rows.{Domain, Row, IsNumbered, IsWide, IsRow}
use Rattle.pp_algebra.specs.Covers.{IsIn}
use Rattle.pp_algebra.specs.Solve.{Item, equation, membership, put_item, equations}
use Rattle.pp_algebra.proofs.Put.{count-put_all}
use Rattle.pp_algebra.proofs.Order.{IsIn-left, IsIn-right}
use Rattle.pp_sld.specs.BuiltIns.{Decision, wait, fail, hold, split, bind, decide}
use Rattle.pp_algebra.specs.Givens.{givens}
use Rattle.pp_sld.specs.Goals.{Goal, Clause, Config, Program, Predicate, Shape, user, equals, member, test, put_goal, with_goals}
use Rattle.pp_sld.specs.Selection.{Act, calls, solves, never, splits, both_sides, first_in, at_place, act_of, act_by}
use Rattle.pp_sld.specs.Ways.{Way, Leads, IsDead, left_loose, fails, one, choices, finished, clause_way, built_in_way, call_next, act_next, next}
use Rattle.pp_sld.specs.Reach.{Chosen}
use Rattle.pp_walk.specs.Moves.{IsDeadAt}
use Rattle.pp_moves.specs.Numbered.{terms_of, number_in}
use Rattle.pp_moves.specs.Laws.{ItemsStand}
use Rattle.pp_moves.proofs.Moved.{in_goal}
use Rattle.pp_moves.proofs.Selecting.{Waits, put_act, at_place-put, next_selected, next_stuck, values_numbered}
use Rattle.pp_unify.specs.States.{value_in, with_new, with_many}
use Rattle.pp_unify.specs.Laws.{item_in, IsItemOver, AreSolved}
use Rattle.pp_unify.specs.Forests.{AreOver, AreDecided}
use Rattle.pp_goal.specs.Apart.{AreApart}
use Rattle.pp_resolve.specs.Standing.{counted, standing, config_in}
use Rattle.pp_resolve.specs.Acts.{placed, does, values}
use Rattle.pp_resolve.specs.Engines.{DoWait}
use Rattle.pp_clause.specs.declared.first.First.{First}
use Rattle.pp_clause.specs.Firsts.{first_of, CannotMatch}
use Rattle.pp_clause.proofs.Dead.{left_out_are_dead}
use Rattle.pp_resolve.proofs.Firsts.{apart_dead, said_put}
use Rattle.pp_resolve.proofs.Fresh.{HasFresh, fresh_many, no_fresh}
use Rattle.pp_resolve.proofs.Steps.{over_left}
use Rattle.pp_resolve.proofs.Calling.{call_leads, call_dead, over_before, over_after, over_goal, over_calls}
use Rattle.pp_resolve.proofs.BuiltIns.{built_in_leads, built_in_dead}

-- ===== rows with more variables, and rows that were solved

numbered_push : (n m : ℕ) (vs : List ℕ) → IsNumbered n vs m → IsNumbered n (vs ++ m ∷ []) (suc m)
numbered_push n m [] h = inr (sym h, ap suc h)
numbered_push n m (v ∷ vs) (inl h) = inl (h.0, numbered_push n m vs h.1)
numbered_push n m (v ∷ vs) (inr h) = inr (h.0, numbered_push (suc n) m vs h.1)

variables-join : (ts us : Trees ℕ) → variables_all (join ts us) ≡ variables_all ts ++ variables_all us
variables-join none us = refl
variables-join (more t ts) us = ap (λ vs. variables t ++ vs) (variables-join ts us) ∙ sym (append_assoc (variables t) (variables_all ts) (variables_all us))

new_row : (r : Row) → IsRow r → IsRow (with_new r None)
new_row r h =
    let size : length (r.domains ++ None ∷ []) ≡ suc (length r.domains) = length-append r.domains (None ∷ []) ∙ omega arith in
    record {
      canonical = subst (IsNumbered 0 (variables_all (join r.columns (more (variable (length r.domains)) none)))) (sym size)
          (subst (λ vs. IsNumbered 0 vs (suc (length r.domains))) (sym (variables-join r.columns (more (variable (length r.domains)) none))) (numbered_push 0 (length r.domains) (variables_all r.columns) h.canonical));
      wide = All-append IsWide r.domains (None ∷ []) h.wide (All-cons IsWide None [] tt (All-nil IsWide));
    }

pub many_row : (r : Row) (k : ℕ) → IsRow r → IsRow (with_many r k)
many_row r zero h = h
many_row r (suc k) h = new_row (with_many r k) (many_row r k h)

pub solved_row : (is : List (Item ℕ)) (p q : Row) → IsRow p → AreSolved p is q → IsRow q × (count q.columns ≡ count p.columns)
solved_row [] p q h a = (subst IsRow a h, ap (λ r. count r.columns) (sym a))
solved_row (i ∷ is) p q h a =
    let later = solved_row is a.0 q a.1.row a.2 in
    (later.0, later.1 ∙ ap count (sym a.1.meets.columns) ∙ count-put_all a.1.meets.by p.columns)

-- ===== items of a goal's own terms

abbrev Within : Trees ℕ → List (Item ℕ) → Type 0
Within ts [] = Unit {0}
Within ts (equation a b ∷ is) = ((v : ℕ) → IsIn v (variables a) → IsIn v (variables_all ts)) × ((v : ℕ) → IsIn v (variables b) → IsIn v (variables_all ts)) × Within ts is
Within ts (membership t d ∷ is) = ((v : ℕ) → IsIn v (variables t) → IsIn v (variables_all ts)) × Within ts is

within_more : (t : Tree ℕ) (ts : Trees ℕ) (is : List (Item ℕ)) → Within ts is → Within (more t ts) is
within_more t ts [] h = tt
within_more t ts (equation a b ∷ is) h = ((λ v i. IsIn-right v (variables t) (variables_all ts) (h.0 v i)), (λ v i. IsIn-right v (variables t) (variables_all ts) (h.1 v i)), within_more t ts is h.2)
within_more t ts (membership u d ∷ is) h = ((λ v i. IsIn-right v (variables t) (variables_all ts) (h.0 v i)), within_more t ts is h.1)

at_within : (i : ℕ) (n : ℤ) (ts : Trees ℕ) → Within ts (at_place i n ts)
at_within i n none = tt
at_within zero n (more t ts) = ((λ v j. IsIn-left v (variables t) (variables_all ts) j), (λ v j. absurd j), tt)
at_within (suc i) n (more t ts) = within_more t ts (at_place i n ts) (at_within i n ts)

sides_within : (ts : Trees ℕ) → Within ts (both_sides ts)
sides_within none = tt
sides_within (more a none) = tt
sides_within (more a (more b ts)) = ((λ v j. IsIn-left v (variables a) (variables_all (more b ts)) j), (λ v j. IsIn-right v (variables a) (variables_all (more b ts)) (IsIn-left v (variables b) (variables_all ts) j)), tt)

first_within : (ts : Trees ℕ) (is : List (Item ℕ)) (d : Domain) → is ≡ first_in d ts → Within ts is
first_within none is d e = subst (Within none) (sym e) tt
first_within (more t ts) is d e = subst (Within (more t ts)) (sym e) ((λ v j. IsIn-left v (variables t) (variables_all ts) j), tt)

decided_within : (ts : Trees ℕ) (d : Decision) (is : List (Item ℕ)) → act_of ts d ≡ Some (solves is) → Within ts is
decided_within ts wait is e = absurd (cc e)
decided_within ts fail is e = absurd (cc e)
decided_within ts hold is e = let f : is ≡ [] = cc e in subst (Within ts) (sym f) tt
decided_within ts split is e = absurd (cc e)
decided_within ts (bind i n) is e = let f : is ≡ at_place i n ts = cc e in subst (Within ts) (sym f) (at_within i n ts)

act_within : (r : Row) (ts : Trees ℕ) (s : Shape) (is : List (Item ℕ)) → act_by r.domains ts s ≡ Some (solves is) → Within ts is
act_within r ts (user p) is e = absurd (cc e)
act_within r ts equals is e = let f : is ≡ both_sides ts = cc e in subst (Within ts) (sym f) (sides_within ts)
act_within r ts (member d) is e = first_within ts is d (cc e)
act_within r ts (test t) is e = decided_within ts (decide t (givens r.domains ts)) is e

within_stands : (c : Config) (ts : Trees ℕ) (is : List (Item ℕ)) → ((v : ℕ) → IsIn v (variables_all ts) → IsIn v (variables_all (terms_of c))) → Within ts is → ItemsStand c is
within_stands c ts [] h w = tt
within_stands c ts (equation a b ∷ is) h w = ((λ v i. h v (w.0 v i)), (λ v i. h v (w.1 v i)), within_stands c ts is h w.2)
within_stands c ts (membership t d ∷ is) h w = ((λ v i. h v (w.0 v i)), within_stands c ts is h w.1)

pub at_place_over : (r : Row) (i : ℕ) (n : ℤ) (ts : Trees ℕ) → AreOver r ts → All (IsItemOver r) (at_place i n ts)
at_place_over r i n none o = All-nil (IsItemOver r)
at_place_over r zero n (more t ts) o = All-cons (IsItemOver r) (equation t (int n)) [] ((λ v j. o v (IsIn-left v (variables t) (variables_all ts) j)), (λ v j. absurd j)) (All-nil (IsItemOver r))
at_place_over r (suc i) n (more t ts) o = at_place_over r i n ts (λ v j. o v (IsIn-right v (variables t) (variables_all ts) j))

waits_placed : (r : Row) (gs : List (Goal ℕ)) → DoWait r gs → All (Waits r.domains) (map (placed r) gs)
waits_placed r [] h = All-nil (Waits r.domains)
waits_placed r (g ∷ gs) h = All-cons (Waits r.domains) (placed r g) (map (placed r) gs) (All-head (λ x. does r x ≡ None) g gs h) (waits_placed r gs (All-tail (λ x. does r x ≡ None) g gs h))

-- ===== nothing is left, or all wait

pub ended : (clauses : Program) (r : Row) (columns : Trees ℕ) (deep : ℕ) → next clauses (config_in r [] columns deep) ≡ finished
unfolding next
ended clauses r columns deep = refl

pub stuck_all : (clauses : Program) (r : Row) (g : Goal ℕ) (gs : List (Goal ℕ)) (columns : Trees ℕ) (deep : ℕ) → DoWait r (g ∷ gs) → next clauses (config_in r (g ∷ gs) columns deep) ≡ left_loose
stuck_all clauses r g gs columns deep h = next_stuck (standing r (g ∷ gs) columns deep) clauses (placed r g) (map (placed r) gs) refl (waits_placed r (g ∷ gs) h)

-- ===== one goal doesn't wait

module _ (clauses : Program) (r : Row) (row : IsRow r) (before : List (Goal ℕ)) (g : Goal ℕ) (after : List (Goal ℕ)) (columns : Trees ℕ) (deep : ℕ) (over : AreOver r (with_goals (before ++ g ∷ after) columns)) (waits : DoWait r before) where
  abbrev c0 : Config
  c0 = standing r (before ++ g ∷ after) columns deep

  abbrev here : Config
  here = config_in r (before ++ g ∷ after) columns deep

  abbrev bf : List (Goal ℕ)
  bf = map (placed r) before

  abbrev g0 : Goal ℕ
  g0 = placed r g

  abbrev af : List (Goal ℕ)
  af = map (placed r) after

  abbrev s : ℕ → Tree ℕ
  s = number_in c0

  parts : c0.goals ≡ bf ++ g0 ∷ af
  parts = map-append (placed r) before (g ∷ after)

  pub follows : (a : Act) → does r g ≡ Some a → next clauses here ≡ act_next clauses here (map (put_goal s) bf) (put_goal s g0) (map (put_goal s) af) (put_act s a)
  follows a e = next_selected c0 clauses bf g0 af a parts (waits_placed r before waits) e

  pub refused : does r g ≡ Some never → next clauses here ≡ fails
  refused e = follows never e

  pub solves_one : (is : List (Item ℕ)) → does r g ≡ Some (solves is) → (w : Way) × (next clauses here ≡ one w)
  solves_one is e = (built_in_way here (map (put_goal s) bf) (map (put_goal s) af) (map (put_item s) is), follows (solves is) e)

  -- ===== a call

  module _ (p : Predicate) (e : does r g ≡ Some (calls p)) where
    pub spent : deep ≡ 0 → next clauses here ≡ left_loose
    spent z = follows (calls p) e ∙ ap (call_next clauses here (map (put_goal s) bf) (put_goal s g0) (map (put_goal s) af) p) z

    module _ (d : ℕ) (k : deep ≡ suc d) where
      abbrev pub way : Clause → Way
      way cl = clause_way here (map (put_goal s) bf) (put_goal s g0) (map (put_goal s) af) d cl

      pub called : next clauses here ≡ choices (map way (clauses p))
      called = follows (calls p) e ∙ ap (call_next clauses here (map (put_goal s) bf) (put_goal s g0) (map (put_goal s) af) p) k

      -- a clause whose first argument has another top is dead
      pub call_left_out : (first : First) (place : ℕ) (cl : Clause) → slice_get (clauses p) place ≡ Some cl → first ≡ first_of g0.arguments → CannotMatch first cl → IsDeadAt clauses here place
      call_left_out first place cl at is out = (
        map way (clauses p),
        called,
        way cl,
        slice_get-map way (clauses p) place ∙ ap (option_map way) at,
        left_out_are_dead first here (map (put_goal s) bf) (put_goal s g0) (map (put_goal s) af) d cl (said_put s first g0.arguments is) out,
      )

      -- a clause with an argument of another top is dead
      pub call_apart : (place : ℕ) (cl : Clause) → slice_get (clauses p) place ≡ Some cl → AreApart g0.arguments cl.head → IsDeadAt clauses here place
      call_apart place cl at out = (
        map way (clauses p),
        called,
        way cl,
        slice_get-map way (clauses p) place ∙ ap (option_map way) at,
        apart_dead here (map (put_goal s) bf) (map (put_goal s) af) d s g0.shape cl.body out.0 g0.arguments cl.head out.1,
      )

      module _ (place : ℕ) (cl : Clause) (at : slice_get (clauses p) place ≡ Some cl) (amount : ℕ) (head : (v : ℕ) → IsIn v (variables_all cl.head) → v < amount) (body : (v : ℕ) → IsIn v (variables_all (with_goals cl.body none)) → v < amount) where
        abbrev n : ℕ
        n = count r.columns

        abbrev items : List (Item ℕ)
        items = equations (put_all (counted n) cl.head) g.arguments

        abbrev pub rest : List (Goal ℕ)
        rest = before ++ map (put_goal (counted n)) cl.body ++ after

        fresh : HasFresh r amount (with_many r amount)
        fresh = fresh_many r amount (many_row r amount row)

        way_at : slice_get (map way (clauses p)) place ≡ Some (way cl)
        way_at = slice_get-map way (clauses p) place ∙ ap (option_map way) at

        pub call_chosen : (q : Row) → AreDecided (with_many r amount) items true q → Chosen clauses here place (config_in q rest columns d)
        call_chosen q a = (map way (clauses p), called, way cl, way_at, call_leads r row before g after columns over deep amount (with_many r amount) fresh d cl head body q a)

        pub call_failed : (q : Row) → AreDecided (with_many r amount) items false q → IsDeadAt clauses here place
        call_failed q a = (map way (clauses p), called, way cl, way_at, call_dead r row before g after columns over deep amount (with_many r amount) fresh d cl head body a)

        pub call_row : (q : Row) → AreDecided (with_many r amount) items true q → IsRow q
        call_row q a = (solved_row items (with_many r amount) q fresh.row a).0

        -- the variables that were there are still
        pub call_count : (q : Row) → AreDecided (with_many r amount) items true q → n ≤ count q.columns
        call_count q a = omega (arith, (solved_row items (with_many r amount) q fresh.row a).1, fresh.size)

        pub call_over : (q : Row) → AreDecided (with_many r amount) items true q → AreOver q (with_goals rest columns)
        call_over q a v i =
            let m = (solved_row items (with_many r amount) q fresh.row a).1 in
            let l = over_left r row amount (with_many r amount) fresh before cl.body after columns d (over_before r row before g after columns over d) (over_after r row before g after columns over d) (over_calls r row before g after columns over d) body v i in
            omega (arith, m, l)

  -- ===== a built-in

  no_body : (v : ℕ) → IsIn {V = ℕ} v [] → v < 0
  no_body v i = absurd i

  nothing_between : before ++ [] ++ after ≡ before ++ after
  nothing_between = ap (λ gs. gs ++ after) (append-nil before)

  module _ (js : List (Item ℕ)) (js_over : All (IsItemOver r) js) where
    abbrev on_bindings : List (Item ℕ)
    on_bindings = map (item_in r) js

    abbrev pub solving : Way
    solving = built_in_way here (map (put_goal s) bf) (map (put_goal s) af) (map (put_item s) on_bindings)

    pub solved_follows : does r g ≡ Some (solves on_bindings) → next clauses here ≡ one solving
    solved_follows e = follows (solves on_bindings) e

    module _ (stand : ItemsStand c0 on_bindings) where
      leads_on : (q : Row) → AreDecided r js true q → Leads solving (config_in q (before ++ after) columns deep)
      leads_on q a = subst (λ gs. Leads solving (config_in q gs columns deep)) nothing_between (built_in_leads r row before g after columns deep over js js_over stand q a)

      dead_on : (q : Row) → AreDecided r js false q → IsDead solving
      dead_on q a = built_in_dead r row before g after columns deep over js js_over stand a

    goal_stands : (v : ℕ) → IsIn v (variables_all g0.arguments) → IsIn v (variables_all (terms_of c0))
    goal_stands = in_goal c0 row.wide bf g0 af parts

    its_stand : does r g ≡ Some (solves on_bindings) → ItemsStand c0 on_bindings
    its_stand e = within_stands c0 g0.arguments on_bindings goal_stands (act_within r g0.arguments g.shape on_bindings e)

    pub solved_leads : does r g ≡ Some (solves on_bindings) → (q : Row) → AreDecided r js true q → Leads solving (config_in q (before ++ after) columns deep)
    solved_leads e = leads_on (its_stand e)

    pub solved_dead : does r g ≡ Some (solves on_bindings) → (q : Row) → AreDecided r js false q → IsDead solving
    solved_dead e = dead_on (its_stand e)

    pub solved_is_row : (q : Row) → AreDecided r js true q → IsRow q
    solved_is_row q a = (solved_row js r q row a).0

    pub solved_over : (q : Row) → AreDecided r js true q → AreOver q (with_goals (before ++ after) columns)
    solved_over q a v i =
        let m = (solved_row js r q row a).1 in
        let l = over_left r row 0 r (no_fresh r row) before [] after columns deep (over_before r row before g after columns over deep) (over_after r row before g after columns over deep) (over_calls r row before g after columns over deep) no_body v (subst (λ gs. IsIn v (variables_all (with_goals gs columns))) (sym nothing_between) i) in
        omega (arith, m, l)

  -- ===== a split

  module _ (e : does r g ≡ Some splits) where
    abbrev pub value_way : ℤ → Way
    value_way n = built_in_way here (map (put_goal s) bf) (map (put_goal s) af) (at_place 0 n (put_all s g0.arguments))

    stands : (v : ℕ) → IsIn v (variables_all g0.arguments) → IsIn v (variables_all (terms_of c0))
    stands = in_goal c0 row.wide bf g0 af parts

    pub split_follows : next clauses here ≡ choices (map value_way (values r g))
    split_follows = follows splits e ∙ ap (λ ns. choices (map value_way ns)) (values_numbered c0 g0.arguments stands)

    module _ (place : ℕ) (n : ℤ) (at : slice_get (values r g) place ≡ Some n) where
      abbrev pub js : List (Item ℕ)
      js = at_place 0 n g.arguments

      value_at : slice_get (map value_way (values r g)) place ≡ Some (value_way n)
      value_at = slice_get-map value_way (values r g) place ∙ ap (option_map value_way) at

      placed_is : at_place 0 n g0.arguments ≡ map (item_in r) js
      placed_is = at_place-put (value_in r) 0 n g.arguments

      js_over : All (IsItemOver r) js
      js_over = at_place_over r 0 n g.arguments (over_goal r row before g after columns over deep)

      stand : ItemsStand c0 (map (item_in r) js)
      stand = subst (ItemsStand c0) placed_is (within_stands c0 g0.arguments (at_place 0 n g0.arguments) stands (at_within 0 n g0.arguments))

      way_is : solving js js_over ≡ value_way n
      way_is = ap (built_in_way here (map (put_goal s) bf) (map (put_goal s) af)) (ap (map (put_item s)) (sym placed_is) ∙ sym (at_place-put s 0 n g0.arguments))

      pub value_chosen : (q : Row) → AreDecided r js true q → Chosen clauses here place (config_in q (before ++ after) columns deep)
      value_chosen q a = (map value_way (values r g), split_follows, value_way n, value_at, subst (λ w. Leads w (config_in q (before ++ after) columns deep)) way_is (leads_on js js_over stand q a))

      pub value_failed : (q : Row) → AreDecided r js false q → IsDeadAt clauses here place
      value_failed q a = (map value_way (values r g), split_follows, value_way n, value_at, subst IsDead way_is (dead_on js js_over stand q a))

      pub value_row : (q : Row) → AreDecided r js true q → IsRow q
      value_row = solved_is_row js js_over

      pub value_over : (q : Row) → AreDecided r js true q → AreOver q (with_goals (before ++ after) columns)
      value_over = solved_over js js_over
