-- The worked examples of searches hold.
use Rattle.std.proofs.Common.{ℕ, pos, ◌⊎◌, inl, inr, List, [], ◌∷◌, refl, arith}
use Rattle.std.proofs.lemmas.List.Elements.{All-nil}
use Rattle.pp_algebra.specs.Terms.{Tree, Trees, int, none}
use Rattle.pp_algebra.specs.Rows.{IsWide, domain_at}
use Rattle.pp_algebra.specs.Covers.{MayGo}
use Rattle.pp_algebra.specs.Solve.{Item, equation, AllHold, IsSolved}
use Rattle.pp_algebra.specs.Stages.{with_fresh}
use Rattle.pp_algebra.specs.Examples.{number, one_column}
use Rattle.pp_sld.specs.Goals.{Shape, user, Goal, Config, with_goals, row_of}
use Rattle.pp_sld.specs.Ways.{Way, Leads, IsDead, clause_way, built_in_way, next}
use Rattle.pp_sld.specs.SearchExamples.{predicate_p, fact, config, calls_p, is_less, EndsFollow, FactsAreTried, BuiltInIsPassed, LeftmostIsSelected, LeavesInOrder, PathsSkipBuiltIns, WorkGoesOn, WorkSplits, WorksInOrder, FindingsSettle, WalkStops}

pub ends_follow : EndsFollow
unfolding next
ends_follow = (refl, refl, refl, refl)

-- ===== without variables every substitution will do

abbrev nowhere : ℕ ⊎ ℕ → Tree ℕ
nowhere v = int (pos 0)

goes : (v : ℕ ⊎ ℕ) → MayGo (domain_at []) (with_fresh ℕ (domain_at []) v) (nowhere v)
goes (inl v) = tt
goes (inr v) = tt

abbrev done : Config
done = config [] 0

solved : (items : List (Item (ℕ ⊎ ℕ))) → AllHold (domain_at []) nowhere items → IsSolved (record { columns = none; domains = with_fresh ℕ (domain_at []) }) items (row_of done)
solved items h = record {
  row = record { canonical = refl; wide = All-nil IsWide };
  meets = record { by = nowhere; columns = refl; domains = goes; holds = h };
  most = λ q r m. record { by = λ v. int (pos 0); columns = m.columns; domains = λ v i. absurd i };
}

abbrev called : Config
called = config (calls_p ∷ []) 1

abbrev by_fact : ℕ → Way
by_fact n = clause_way called [] calls_p [] 0 (fact n)

leads_first : Leads (by_fact 1) done
leads_first = record { solved = solved (equation (number 1) (number 1) ∷ []) (refl, tt); goals = refl; columns = refl; depth = refl }

second_fails : IsDead (by_fact 2)
second_fails q r m = absurd (cc (m.holds.0))

pub facts_are_tried : FactsAreTried
unfolding next
facts_are_tried = (by_fact 1 ∷ by_fact 2 ∷ [], refl, (by_fact 1, by_fact 2 ∷ [], refl, done, leads_first, (refl, refl), (by_fact 2, [], refl, second_fails, refl)))

abbrev tested : Config
tested = config (is_less (number 1) (number 2) ∷ calls_p ∷ []) 0

abbrev left : Config
left = config (calls_p ∷ []) 0

-- the goal over any variables
abbrev goal : Shape → Trees (ℕ ⊎ ℕ) → Goal (ℕ ⊎ ℕ)
goal shape ts = record { shape = shape; arguments = ts }

solved_left : IsSolved (record { columns = with_goals (goal (user predicate_p) (one_column (number 1)) ∷ []) none; domains = with_fresh ℕ (domain_at []) }) [] (row_of left)
solved_left = record {
  row = record { canonical = refl; wide = All-nil IsWide };
  meets = record { by = nowhere; columns = refl; domains = goes; holds = tt };
  most = λ q r m. record { by = λ v. int (pos 0); columns = m.columns; domains = λ v i. absurd i };
}

abbrev past_test : Way
past_test = built_in_way tested [] (calls_p ∷ []) []

leads_left : Leads past_test left
leads_left = record { solved = solved_left; goals = refl; columns = refl; depth = refl }

pub built_in_is_passed : BuiltInIsPassed
unfolding next
built_in_is_passed = (past_test, refl, left, leads_left, (refl, refl))

pub leftmost_is_selected : LeftmostIsSelected
unfolding next
leftmost_is_selected = (refl, refl)

-- ===== trees as data

pub leaves_in_order : LeavesInOrder
leaves_in_order a b c = (refl, refl)

pub paths_skip_built_ins : PathsSkipBuiltIns
paths_skip_built_ins a b c = (refl, refl, refl)

pub work_goes_on : WorkGoesOn
work_goes_on a b c = (refl, refl, refl, refl, refl, refl)

pub work_splits : WorkSplits
work_splits = (refl, refl, refl, refl, refl, refl, refl, refl, refl)

pub works_in_order : WorksInOrder
works_in_order = (inr (refl, tt), inl (omega arith), λ h. h)

pub findings_settle : FindingsSettle
findings_settle = (refl, refl, refl, refl, refl, refl)

pub walk_stops : WalkStops
walk_stops a b c = (refl, refl)
