-- The goals of a query as they are listed, and which of them name a variable.
use Rattle.std.specs.Prelude.{◌≡◌, ℕ, ◌≤◌, ◌<◌, ◌^◌, List, map, length, All, Some}
use Rattle.pp_algebra.specs.Covers.{IsIn}
use Rattle.pp_algebra.specs.Terms.{variables_all}
use Rattle.pp_term.specs.declared.query.Query.{Query}
use Rattle.pp_term.specs.WellFormed.{IsQuery}
use Rattle.pp_store.specs.declared.goals.Annotated.{Annotated}
use Rattle.pp_propagation.specs.Stores.{Asked}
use Rattle.pp_propagation.specs.Turns.{goal_at}
use Rattle.pp_store.specs.Queries.{asked_by, goals_in, IsGoalAt, AreArgumentsOf}
use Rattle.pp_store.specs.Occurring.{Stands}
use Rattle.pp_store.specs.Ascending.{IsAscending}

-- the sets have the number of each goal at the variables that it names, and no other numbers
pub record AreNamed (goals : List Asked) (sets : List (List ℕ)) : Type 0 where
  pub all : (k v : ℕ) (a : Asked) → goal_at goals k ≡ Some a → IsIn v (variables_all a.goal.arguments) → Stands sets v k
  pub only : (v k : ℕ) → Stands sets v k → (1 ≤ k) × (k ≤ length goals)

-- the list and the sets are those of this query
pub record IsIndex (q : Query) (asked : List Annotated) (sets : List (List ℕ)) : Type 0 where
  pub query : IsQuery q
  pub goals : map asked_by asked ≡ goals_in q
  pub formed : All (AreArgumentsOf q) asked
  pub few : length asked < 2 ^ 32
  pub count : q.vars ≤ length sets
  pub named : AreNamed (goals_in q) sets

-- ascending numbers of goals, among which is each goal that names one of the variables
pub record AreCandidates (q : Query) (variables numbers : List ℕ) : Type 0 where
  pub ascending : IsAscending numbers
  pub all : (k v : ℕ) (a : Asked) → IsGoalAt q k a → IsIn v (variables_all a.goal.arguments) → IsIn v variables
      → IsIn k numbers
  pub goals : (k : ℕ) → IsIn k numbers → (1 ≤ k) × (k ≤ length (goals_in q))
  pub below : (k v : ℕ) (a : Asked) → IsGoalAt q k a → IsIn v (variables_all a.goal.arguments) → v < q.vars
