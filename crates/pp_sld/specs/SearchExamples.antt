-- Worked examples of what follows a configuration, of search trees, works, paths, walks and settled findings.
use Rattle.std.specs.Prelude.{◌≡◌, ℕ, true, false, List, [], ◌∷◌, Some, None}
use Rattle.pp_algebra.specs.Terms.{Tree, variable, Trees, none}
use Rattle.pp_algebra.specs.Examples.{number, one_column, two_columns}
use Rattle.pp_sld.specs.BuiltIns.{less}
use Rattle.pp_sld.specs.Goals.{Predicate, Shape, user, test, Goal, Clause, Program, Config, program_of}
use Rattle.pp_sld.specs.Ways.{finished, left_loose, fails, next}
use Rattle.pp_sld.specs.Trees.{Search, answer, loose, passed, choice, no_more, child, failed, IsSearch}
use Rattle.pp_sld.specs.Trace.{answers_with, loose_with, leaves, reductions, trace}
use Rattle.pp_sld.specs.Verdicts.{most, unique, consistent}
use Rattle.pp_sld.specs.Findings.{finding, settled}
use Rattle.pp_sld.specs.Walks.{walk}
use Rattle.pp_sld.specs.Paths.{at_path}
use Rattle.pp_sld.specs.Works.{Work, spent, at, level, worth, down, split, IsLater}
use Rattle.pp_sld.specs.Works as works
use Rattle.pp_sld.specs.Examples.{any_call, answer_one, answer_two, answer_atom}

-- the program p(1). p(2).
abbrev pub predicate_p : Predicate
predicate_p = record { name = 9; arity = 1 }

abbrev pub fact : ℕ → Clause
fact n = record { head = one_column (number n); body = [] }

abbrev pub facts : Program
facts = program_of ((predicate_p, fact 1) ∷ (predicate_p, fact 2) ∷ [])

abbrev pub goal : Shape → Trees ℕ → Goal ℕ
goal shape ts = record { shape = shape; arguments = ts }

-- a configuration of these goals, without columns
abbrev pub config : List (Goal ℕ) → ℕ → Config
config gs depth = record { goals = gs; columns = none; domains = []; depth = depth }

abbrev pub calls_p : Goal ℕ
calls_p = goal (user predicate_p) (one_column (number 1))

abbrev pub is_less : Tree ℕ → Tree ℕ → Goal ℕ
is_less a b = goal (test less) (two_columns a b)

-- no goal is left; one waits; a call has no depth left; a built-in fails
abbrev pub EndsFollow : Type 0
EndsFollow =
    (next facts (config [] 3) ≡ finished)
    × (next facts (config (is_less (variable 0) (number 2) ∷ []) 3) ≡ left_loose)
    × (next facts (config (calls_p ∷ []) 0) ≡ left_loose)
    × (next facts (config (is_less (number 2) (number 1) ∷ calls_p ∷ []) 0) ≡ fails)

-- p(1): the first fact answers, the second fails
abbrev pub FactsAreTried : Type 0
FactsAreTried = IsSearch facts (config (calls_p ∷ []) 1) (choice (child (answer (config [] 0)) (failed no_more)))

-- 1 < 2 is passed; then p(1) has no depth left
abbrev pub BuiltInIsPassed : Type 0
BuiltInIsPassed = IsSearch facts (config (is_less (number 1) (number 2) ∷ calls_p ∷ []) 0) (passed (loose (config (calls_p ∷ []) 0)))

-- the same where the built-in stands behind the call, which is selected first
abbrev pub LeftmostIsSelected : Type 0
LeftmostIsSelected = IsSearch facts (config (calls_p ∷ is_less (number 1) (number 2) ∷ []) 0) (loose (config (calls_p ∷ is_less (number 1) (number 2) ∷ []) 0))

-- a tree with an answer, a failure, and, past a built-in, a loose end and an answer, over any configurations
abbrev pub bush : Config → Config → Config → Search
bush a b c = choice (child (answer a) (failed (child (passed (choice (child (loose b) (child (answer c) no_more)))) no_more)))

abbrev pub LeavesInOrder : Type 0
LeavesInOrder = (a b c : Config) → (leaves (bush a b c) ≡ answers_with a ∷ loose_with b ∷ answers_with c ∷ []) × (reductions (trace (bush a b c)) ≡ 6)

-- the built-in has no place of its own; a path that fails or isn't there has no leaves
abbrev pub PathsSkipBuiltIns : Type 0
PathsSkipBuiltIns = (a b c : Config) → (at_path (2 ∷ 1 ∷ []) (bush a b c) ≡ answers_with c ∷ []) × (at_path (1 ∷ 0 ∷ []) (bush a b c) ≡ []) × (at_path (3 ∷ []) (bush a b c) ≡ [])

-- the work at the first of three alternatives: going on, and splitting it
abbrev pub WorkGoesOn : Type 0
WorkGoesOn = (a b c : Config) →
    (worth (at (level 0 3 ∷ [])) (bush a b c) ≡ leaves (bush a b c))
    × (works.next (at (level 0 3 ∷ [])) ≡ at (level 1 3 ∷ []))
    × (worth (at (level 1 3 ∷ [])) (bush a b c) ≡ loose_with b ∷ answers_with c ∷ [])
    × (works.next (at (level 2 3 ∷ level 0 2 ∷ [])) ≡ at (level 2 3 ∷ level 1 2 ∷ []))
    × (works.next (at (level 2 3 ∷ level 1 2 ∷ [])) ≡ spent)
    × (worth spent (bush a b c) ≡ [])

abbrev pub WorkSplits : Type 0
WorkSplits =
    (down 3 (at []) ≡ at (level 0 3 ∷ []))
    × (split (at (level 0 3 ∷ [])) ≡ Some (at (level 0 1 ∷ []), at (level 1 3 ∷ [])))
    × (split (at (level 0 1 ∷ [])) ≡ None)
    × (works.next (at (level 0 1 ∷ [])) ≡ spent)
    × (works.next (at (level 1 3 ∷ [])) ≡ at (level 2 3 ∷ []))
    × (split (at (level 2 3 ∷ [])) ≡ None)
    × (split (at (level 0 3 ∷ level 0 2 ∷ [])) ≡ Some (at (level 0 1 ∷ level 0 2 ∷ []), at (level 1 3 ∷ [])))
    × (split (at (level 2 3 ∷ level 0 2 ∷ [])) ≡ Some (at (level 2 3 ∷ level 0 1 ∷ []), at (level 2 3 ∷ level 1 2 ∷ [])))
    × (split (at (level 2 3 ∷ level 1 2 ∷ [])) ≡ None)

-- down comes after, and what is split off too; a spent work doesn't
abbrev pub WorksInOrder : Type 0
WorksInOrder = IsLater (down 2 (at (level 1 3 ∷ []))) (at (level 1 3 ∷ [])) × IsLater (at (level 1 3 ∷ [])) (at (level 0 1 ∷ level 0 2 ∷ [])) × (IsLater spent (at []) → ⊥)

-- the call, and two rows that have no more in common than it; two rows that differ; an answer
abbrev pub FindingsSettle : Type 0
FindingsSettle =
    (settled any_call (finding most (answer_one ∷ answer_atom ∷ []) []) ≡ true)
    × (settled any_call (finding most (answer_one ∷ []) []) ≡ false)
    × (settled any_call (finding unique (answer_one ∷ answer_two ∷ []) []) ≡ true)
    × (settled any_call (finding unique (answer_one ∷ answer_one ∷ []) []) ≡ false)
    × (settled any_call (finding consistent (answer_one ∷ []) []) ≡ true)
    × (settled any_call (finding consistent [] (answer_one ∷ [])) ≡ false)

-- `consistent` stops at the first answer
abbrev pub WalkStops : Type 0
WalkStops = (a b c : Config) → (walk consistent any_call (bush a b c) ≡ 1) × (walk consistent any_call (choice (failed (child (loose b) no_more))) ≡ 2)
