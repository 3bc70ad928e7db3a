-- Which goal of a configuration is selected, and what is done with it.
use Rattle.std.specs.Prelude.{ℕ, ℤ, zero, suc, List, [], ◌∷◌, Option, Some, None}
use Rattle.pp_algebra.specs.Terms.{Tree, int, node, variable, Trees, none, more}
use Rattle.pp_algebra.specs.Rows.{Domain, domain_at}
use Rattle.pp_algebra.specs.Solve.{Item, equation, membership}
use Rattle.pp_sld.specs.BuiltIns.{Decision, wait, fail, hold, split, bind, decide}
use Rattle.pp_algebra.specs.Givens.{givens}
use Rattle.pp_sld.specs.Goals.{Predicate, Shape, user, equals, member, test, Goal}

-- what is done with a goal that doesn't wait
pub data Act : Type 0 where
  calls : Predicate → Act
  solves : List (Item ℕ) → Act
  never : Act
  splits : Act

abbrev pub both_sides : {V : Type 0} → Trees V → List (Item V)
both_sides none = []
both_sides (more a none) = []
both_sides (more a (more b ts)) = equation a b ∷ []

abbrev pub first_in : {V : Type 0} → Domain → Trees V → List (Item V)
first_in d none = []
first_in d (more t ts) = membership t d ∷ []

abbrev pub at_place : {V : Type 0} → ℕ → ℤ → Trees V → List (Item V)
at_place i n none = []
at_place zero n (more t ts) = equation t (int n) ∷ []
at_place (suc i) n (more t ts) = at_place i n ts

-- None waits
abbrev pub act_of : Trees ℕ → Decision → Option Act
act_of ts wait = None
act_of ts fail = Some never
act_of ts hold = Some (solves [])
act_of ts split = Some splits
act_of ts (bind i n) = Some (solves (at_place i n ts))

abbrev pub act_by : List (Option Domain) → Trees ℕ → Shape → Option Act
act_by ds ts (user p) = Some (calls p)
act_by ds ts equals = Some (solves (both_sides ts))
act_by ds ts (member d) = Some (solves (first_in d ts))
act_by ds ts (test t) = act_of ts (decide t (givens ds ts))

abbrev pub act : List (Option Domain) → Goal ℕ → Option Act
act ds g = act_by ds g.arguments g.shape

-- the leftmost goal that doesn't wait, between those before and those after it
pub data Selection : Type 0 where
  all_wait : Selection
  selected : List (Goal ℕ) → Goal ℕ → List (Goal ℕ) → Act → Selection

abbrev pub past : Goal ℕ → Selection → Selection
past h all_wait = all_wait
past h (selected before g after a) = selected (h ∷ before) g after a

abbrev pub select_by : Goal ℕ → List (Goal ℕ) → Selection → Option Act → Selection
select_by g gs later None = past g later
select_by g gs later (Some a) = selected [] g gs a

abbrev pub select : List (Option Domain) → List (Goal ℕ) → Selection
select ds [] = all_wait
select ds (g ∷ gs) = select_by g gs (select ds gs) (act ds g)
