-- Which goal is selected does not lie in the numbers of the variables.
use Rattle.std.proofs.Common.{◌≡◌, ℕ, ℤ, zero, suc, inl, List, [], ◌∷◌, ◌++◌, map, Option, Some, None, refl, ap, sym, ◌∙◌, subst}
use Rattle.std.specs.Prelude.{nat_eq, All}
use Rattle.std.proofs.lemmas.List.Elements.{All-head, All-tail}
use Rattle.pp_algebra.specs.Terms.{Tree, int, node, variable, Trees, none, more, put, put_all, variables, variables_all}
use Rattle.pp_algebra.specs.Rows.{Domain, domain_at}
use Rattle.pp_algebra.specs.Covers.{IsIn}
use Rattle.pp_algebra.specs.Canon.{firsts}
use Rattle.pp_algebra.specs.Solve.{put_item}
use Rattle.pp_algebra.proofs.Order.{IsIn-left, IsIn-right}
use Rattle.pp_algebra.proofs.CanonLemmas.{nat_eq-IsSame, has-all, domain_at-place}
use Rattle.pp_algebra.specs.Givens.{given_variable, given, givens}
use Rattle.pp_sld.specs.BuiltIns.{Decision, wait, fail, hold, split, bind, decide}
use Rattle.pp_sld.specs.Goals.{Shape, user, equals, member, test, Goal, Config, put_goal, with_goals}
use Rattle.pp_sld.specs.Selection.{Act, calls, solves, never, splits, both_sides, first_in, at_place, act_of, act_by, act, Selection, all_wait, selected, past, select_by, select}
use Rattle.pp_moves.specs.Numbered.{terms_of, number_in, numbered}
use Rattle.pp_sld.specs.Goals.{Program}
use Rattle.pp_sld.specs.Ways.{values_in, values_of, left_loose, act_next, select_next, goals_next, next}
use Rattle.pp_moves.proofs.Places.{in_first, in_rest, in_goals}

-- what is done, over other variables
abbrev pub put_act : (ℕ → Tree ℕ) → Act → Act
put_act s (calls p) = calls p
put_act s (solves is) = solves (map (put_item s) is)
put_act s never = never
put_act s splits = splits

abbrev pub put_option : (ℕ → Tree ℕ) → Option Act → Option Act
put_option s None = None
put_option s (Some a) = Some (put_act s a)

abbrev pub put_selection : (ℕ → Tree ℕ) → Selection → Selection
put_selection s all_wait = all_wait
put_selection s (selected before g after a) = selected (map (put_goal s) before) (put_goal s g) (map (put_goal s) after) (put_act s a)

pub at_place-put : (s : ℕ → Tree ℕ) (i : ℕ) (n : ℤ) (ts : Trees ℕ) → at_place i n (put_all s ts) ≡ map (put_item s) (at_place i n ts)
at_place-put s i n none = refl
at_place-put s zero n (more t ts) = refl
at_place-put s (suc i) n (more t ts) = at_place-put s i n ts

both_sides-put : (s : ℕ → Tree ℕ) (ts : Trees ℕ) → both_sides (put_all s ts) ≡ map (put_item s) (both_sides ts)
both_sides-put s none = refl
both_sides-put s (more a none) = refl
both_sides-put s (more a (more b ts)) = refl

first_in-put : (s : ℕ → Tree ℕ) (d : Domain) (ts : Trees ℕ) → first_in d (put_all s ts) ≡ map (put_item s) (first_in d ts)
first_in-put s d none = refl
first_in-put s d (more t ts) = refl

act_of-put : (s : ℕ → Tree ℕ) (ts : Trees ℕ) (d : Decision) → act_of (put_all s ts) d ≡ put_option s (act_of ts d)
act_of-put s ts wait = refl
act_of-put s ts fail = refl
act_of-put s ts hold = refl
act_of-put s ts split = refl
act_of-put s ts (bind i n) = ap (λ is. Some (solves is)) (at_place-put s i n ts)

module _ (c : Config) where
  abbrev ds : List (Option Domain)
  ds = c.domains

  abbrev es : List (Option Domain)
  es = (numbered c).domains

  abbrev s : ℕ → Tree ℕ
  s = number_in c

  abbrev StandsIn : List ℕ → Type 0
  StandsIn vs = (v : ℕ) → IsIn v vs → IsIn v (variables_all (terms_of c))

  given_numbered : (t : Tree ℕ) → StandsIn (variables t) → given es (put s t) ≡ given ds t
  given_numbered (int n) h = refl
  given_numbered (node f ts) h = refl
  given_numbered (variable v) h = ap given_variable (domain_at-place nat_eq nat_eq-IsSame (domain_at ds) (firsts nat_eq [] (variables_all (terms_of c))) v (has-all nat_eq nat_eq-IsSame [] (variables_all (terms_of c)) v (h v (inl refl))))

  givens_numbered : (ts : Trees ℕ) → StandsIn (variables_all ts) → givens es (put_all s ts) ≡ givens ds ts
  givens_numbered none h = refl
  givens_numbered (more t ts) h = rw (given_numbered t (λ v i. h v (IsIn-left v (variables t) (variables_all ts) i)), givens_numbered ts (λ v i. h v (IsIn-right v (variables t) (variables_all ts) i))) refl

  act_by_numbered : (ts : Trees ℕ) (k : Shape) → StandsIn (variables_all ts) → act_by es (put_all s ts) k ≡ put_option s (act_by ds ts k)
  act_by_numbered ts (user p) h = refl
  act_by_numbered ts equals h = ap (λ is. Some (solves is)) (both_sides-put s ts)
  act_by_numbered ts (member d) h = ap (λ is. Some (solves is)) (first_in-put s d ts)
  act_by_numbered ts (test t) h = ap (λ gs. act_of (put_all s ts) (decide t gs)) (givens_numbered ts h) ∙ act_of-put s ts (decide t (givens ds ts))

  pub act_numbered : (g : Goal ℕ) → StandsIn (variables_all g.arguments) → act es (put_goal s g) ≡ put_option s (act ds g)
  act_numbered g h = act_by_numbered g.arguments g.shape h

  past-put : (g : Goal ℕ) (x : Selection) → past (put_goal s g) (put_selection s x) ≡ put_selection s (past g x)
  past-put g all_wait = refl
  past-put g (selected before h after a) = refl

  select_by-put : (g : Goal ℕ) (gs : List (Goal ℕ)) (later : Selection) (a : Option Act) → select_by (put_goal s g) (map (put_goal s) gs) (put_selection s later) (put_option s a) ≡ put_selection s (select_by g gs later a)
  select_by-put g gs later None = past-put g later
  select_by-put g gs later (Some a) = refl

  pub select_numbered : (gs : List (Goal ℕ)) → StandsIn (variables_all (with_goals gs none)) → select es (map (put_goal s) gs) ≡ put_selection s (select ds gs)
  select_numbered [] h = refl
  select_numbered (g ∷ gs) h =
      ap (select_by (put_goal s g) (map (put_goal s) gs) (select es (map (put_goal s) gs))) (act_numbered g (λ v i. h v (in_first g gs v i)))
      ∙ ap (λ x. select_by (put_goal s g) (map (put_goal s) gs) x (put_option s (act ds g))) (select_numbered gs (λ v i. h v (in_rest g gs v i)))
      ∙ select_by-put g gs (select ds gs) (act ds g)

-- the first goal that doesn't wait is selected
abbrev pub Waits : List (Option Domain) → Goal ℕ → Type 0
Waits ds g = act ds g ≡ None

pub select_waiting : (ds : List (Option Domain)) (gs : List (Goal ℕ)) → All (Waits ds) gs → select ds gs ≡ all_wait
select_waiting _ [] h = refl
select_waiting ds (g ∷ gs) h = ap (select_by g gs (select ds gs)) (All-head (Waits ds) g gs h) ∙ ap (past g) (select_waiting ds gs (All-tail (Waits ds) g gs h))

pub select_first : (ds : List (Option Domain)) (before : List (Goal ℕ)) (g : Goal ℕ) (after : List (Goal ℕ)) (a : Act) → All (Waits ds) before → act ds g ≡ Some a → select ds (before ++ g ∷ after) ≡ selected before g after a
select_first ds [] g after a h e = ap (select_by g after (select ds after)) e
select_first ds (b ∷ before) g after a h e =
    ap (select_by b (before ++ g ∷ after) (select ds (before ++ g ∷ after))) (All-head (Waits ds) b before h)
    ∙ ap (past b) (select_first ds before g after a (All-tail (Waits ds) b before h) e)

-- ===== what follows

module _ (c : Config) where
  -- the values of a split
  pub values_numbered : (ts : Trees ℕ) → ((v : ℕ) → IsIn v (variables_all ts) → IsIn v (variables_all (terms_of c))) → values_of (numbered c).domains (put_all (number_in c) ts) ≡ values_of c.domains ts
  values_numbered none h = refl
  values_numbered (more (int n) ts) h = refl
  values_numbered (more (node f us) ts) h = refl
  values_numbered (more (variable v) ts) h = ap values_in (domain_at-place nat_eq nat_eq-IsSame (domain_at c.domains) (firsts nat_eq [] (variables_all (terms_of c))) v (has-all nat_eq nat_eq-IsSame [] (variables_all (terms_of c)) v (h v (inl refl))))

  some_goal : (clauses : Program) (before : List (Goal ℕ)) (g : Goal ℕ) (after : List (Goal ℕ)) → goals_next clauses (numbered c) (map (put_goal (number_in c)) (before ++ g ∷ after)) ≡ select_next clauses (numbered c) (select (numbered c).domains (map (put_goal (number_in c)) (before ++ g ∷ after)))
  some_goal clauses [] g after = refl
  some_goal clauses (b ∷ before) g after = refl

  all_stand : (v : ℕ) → IsIn v (variables_all (with_goals c.goals none)) → IsIn v (variables_all (terms_of c))
  all_stand v i = in_goals c.goals c.columns v i

  -- what follows the numbered configuration, by what is done with the first goal that doesn't wait
  pub next_selected : (clauses : Program) (before : List (Goal ℕ)) (g : Goal ℕ) (after : List (Goal ℕ)) (a : Act) → c.goals ≡ before ++ g ∷ after → All (Waits c.domains) before → act c.domains g ≡ Some a
      → next clauses (numbered c) ≡ act_next clauses (numbered c) (map (put_goal (number_in c)) before) (put_goal (number_in c) g) (map (put_goal (number_in c)) after) (put_act (number_in c) a)
  unfolding next
  next_selected clauses before g after a e h n =
      ap (λ gs. goals_next clauses (numbered c) (map (put_goal (number_in c)) gs)) e
      ∙ some_goal clauses before g after
      ∙ ap (select_next clauses (numbered c)) (select_numbered c (before ++ g ∷ after) (λ v i. all_stand v (subst (λ gs. IsIn v (variables_all (with_goals gs none))) (sym e) i)) ∙ ap (put_selection (number_in c)) (select_first c.domains before g after a h n))

  -- all goals wait
  pub next_stuck : (clauses : Program) (g : Goal ℕ) (gs : List (Goal ℕ)) → c.goals ≡ g ∷ gs → All (Waits c.domains) (g ∷ gs) → next clauses (numbered c) ≡ left_loose
  unfolding next
  next_stuck clauses g gs e h =
      ap (λ xs. goals_next clauses (numbered c) (map (put_goal (number_in c)) xs)) e
      ∙ ap (select_next clauses (numbered c)) (select_numbered c (g ∷ gs) (λ v i. all_stand v (subst (λ xs. IsIn v (variables_all (with_goals xs none))) (sym e) i)) ∙ ap (put_selection (number_in c)) (select_waiting c.domains (g ∷ gs) h))
