-- Worked examples of stores, faces, turns and watchers: a run of two goals that share a variable.
use Rattle.std.specs.Prelude.{◌≡◌, ℕ, List, [], ◌∷◌, length, Option, Some, None, codes}
use Rattle.pp_algebra.specs.Terms.{variable, none, more}
use Rattle.pp_algebra.specs.Rows.{Row}
use Rattle.pp_algebra.specs.Examples.{number, one_column, two_columns, row, one_or_two, two_or_three}
use Rattle.pp_sld.specs.Goals.{user}
use Rattle.pp_sld.specs.Verdicts.{Verdict, fail, same, unfinished, narrow, most}
use Rattle.pp_propagation.specs.Stores.{Asked, face, apply}
use Rattle.pp_propagation.specs.Turns.{Commit, State, goal_at, woken, turned}
use Rattle.pp_propagation.specs.Histories.{Change, changes, unfinished_goals, failed_goal}
use Rattle.pp_propagation.specs.Runs.{yes, stopped, opening}
use Rattle.pp_propagation.specs.Watchers.{Watcher, after, told}
use Rattle.pp_propagation.specs.Replies.{answer_text, summary_by}

-- the goal p(x, y) of a query, with `most`
abbrev pub pair_goal : ℕ → ℕ → Asked
pair_goal x y = record {
  goal = record { shape = user (record { name = 0; arity = 2 }); arguments = two_columns (variable x) (variable y) };
  mode = most;
}

-- p(X, Y) and p(Y, Z)
abbrev pub chain : List Asked
chain = pair_goal 0 1 ∷ pair_goal 1 2 ∷ []

-- nothing is known of X, Y and Z
abbrev pub nothing_known : Row
nothing_known = row (more (variable 0) (more (variable 1) (more (variable 2) none))) (None ∷ None ∷ None ∷ [])

-- what (1, 2) and (2, 3) have in common
abbrev pub first_given : Row
first_given = row (two_columns (variable 0) (variable 1)) (Some one_or_two ∷ Some two_or_three ∷ [])

abbrev pub ranges_known : Row
ranges_known = row (more (variable 0) (more (variable 1) (more (variable 2) none)))
    (Some one_or_two ∷ Some two_or_three ∷ None ∷ [])

abbrev pub first_known : Row
first_known = row (more (variable 0) (more (number 2) (more (number 3) none))) (Some one_or_two ∷ [])

abbrev pub all_known : Row
all_known = row (more (number 1) (more (number 2) (more (number 3) none))) []

-- a face numbers the store's variables anew
abbrev pub FaceIsNumbered : Type 0
FaceIsNumbered = face nothing_known (pair_goal 1 2).goal
    ≡ row (two_columns (variable 0) (variable 1)) (None ∷ None ∷ [])

-- a row that is applied gives its domains, or its values, to the store
abbrev pub RowIsApplied : Type 0
RowIsApplied =
    (apply nothing_known (pair_goal 0 1).goal first_given ≡ ranges_known)
    × (apply ranges_known (pair_goal 1 2).goal (row (two_columns (number 2) (number 3)) []) ≡ first_known)

-- both goals have another face then; one that waits is not woken
abbrev pub ChangedAreWoken : Type 0
ChangedAreWoken =
    (woken nothing_known ranges_known [] 1 chain ≡ 1 ∷ 2 ∷ [])
    × (woken nothing_known ranges_known (2 ∷ []) 1 chain ≡ 1 ∷ [])
    × (woken first_known all_known [] 1 chain ≡ 1 ∷ [])

abbrev pub turned_at : List Asked → List ℕ → ℕ → Verdict → State → Option Asked → Option State
turned_at goals later k v s None = None
turned_at goals later k v s (Some a) = turned goals later k a v s

abbrev pub first_turned : List Asked → Verdict → State → List ℕ → Option State
first_turned goals v s [] = None
first_turned goals v s (k ∷ later) = turned_at goals later k v s (goal_at goals k)

-- what turns with these verdicts make of a state, one after another
abbrev pub after_verdicts : List Asked → List Verdict → Option State → Option State
after_verdicts goals [] s = s
after_verdicts goals (v ∷ vs) None = None
after_verdicts goals (v ∷ vs) (Some s) = after_verdicts goals vs (first_turned goals v s s.waiting)

abbrev pub second_face : Row
second_face = row (two_columns (variable 0) (variable 1)) (Some two_or_three ∷ None ∷ [])

-- the goals 1 and 2 narrow
abbrev pub two_turns : List Commit
two_turns =
    record {
      goal = 1;
      face = row (two_columns (variable 0) (variable 1)) (None ∷ None ∷ []);
      verdict = narrow first_given;
      store = ranges_known;
    }
    ∷ record {
      goal = 2;
      face = second_face;
      verdict = narrow (row (two_columns (number 2) (number 3)) []);
      store = first_known;
    }
    ∷ []

-- and then goal 1 narrows again, and both change nothing more
abbrev pub five_turns : List Commit
five_turns =
    record {
      goal = 1;
      face = row (two_columns (variable 0) (variable 1)) (None ∷ None ∷ []);
      verdict = narrow first_given;
      store = ranges_known;
    }
    ∷ record {
      goal = 2;
      face = second_face;
      verdict = narrow (row (two_columns (number 2) (number 3)) []);
      store = first_known;
    }
    ∷ record {
      goal = 1;
      face = row (two_columns (variable 0) (number 2)) (Some one_or_two ∷ []);
      verdict = narrow (row (one_column (number 1)) []);
      store = all_known;
    }
    ∷ record { goal = 2; face = row (two_columns (number 2) (number 3)) []; verdict = same; store = all_known }
    ∷ record { goal = 1; face = row (two_columns (number 1) (number 2)) []; verdict = same; store = all_known }
    ∷ []

abbrev pub two_verdicts : List Verdict
two_verdicts = narrow first_given ∷ narrow (row (two_columns (number 2) (number 3)) []) ∷ []

abbrev pub five_verdicts : List Verdict
five_verdicts = narrow first_given ∷ narrow (row (two_columns (number 2) (number 3)) [])
    ∷ narrow (row (one_column (number 1)) []) ∷ same ∷ same ∷ []

-- after two turns both goals wait again; after five none waits
abbrev pub GoalsTakeTurns : Type 0
GoalsTakeTurns =
    (after_verdicts chain two_verdicts (Some (opening chain nothing_known))
    ≡ Some (record { store = first_known; waiting = 1 ∷ 2 ∷ []; history = two_turns }))
    × (after_verdicts chain five_verdicts (Some (opening chain nothing_known))
    ≡ Some (record { store = all_known; waiting = []; history = five_turns }))

abbrev pub first_change : Change
first_change = record { turn = 1; goal = 1; given = first_given; store = ranges_known }

abbrev pub second_change : Change
second_change = record { turn = 2; goal = 2; given = row (two_columns (number 2) (number 3)) []; store = first_known }

abbrev pub third_change : Change
third_change = record { turn = 3; goal = 1; given = row (one_column (number 1)) []; store = all_known }

abbrev pub HistoryIsRead : Type 0
HistoryIsRead =
    (changes five_turns ≡ first_change ∷ second_change ∷ third_change ∷ [])
    × (unfinished_goals 2 five_turns ≡ [])
    × (failed_goal five_turns ≡ None)

abbrev pub turn_of : ℕ → Verdict → Commit
turn_of k v = record { goal = k; face = all_known; verdict = v; store = all_known }

-- a goal's last verdict counts, whatever it was before
abbrev pub LastVerdictCounts : Type 0
LastVerdictCounts =
    (unfinished_goals 2 (turn_of 1 unfinished ∷ turn_of 2 unfinished ∷ turn_of 1 same ∷ []) ≡ 2 ∷ [])
    × (unfinished_goals 2 (turn_of 2 unfinished ∷ turn_of 1 unfinished ∷ []) ≡ 1 ∷ 2 ∷ [])
    × (failed_goal (turn_of 1 unfinished ∷ turn_of 2 fail ∷ []) ≡ Some 2)

-- what is written of the whole run, and of two turns
abbrev pub AnswerIsWritten : Type 0
AnswerIsWritten =
    (answer_text [] (codes "X" ∷ codes "Y" ∷ codes "Z" ∷ []) all_known [] yes ≡ codes "X = 1\nY = 2\nZ = 3\nyes\n")
    × (answer_text [] (codes "X" ∷ []) all_known (1 ∷ []) stopped ≡ codes "X = 1\nunfinished 1\nstopped\n")
    × (summary_by (length five_turns) all_known yes ≡ codes "verdict yes\nturns 5\nbound 3\nsizes 0\n")

abbrev pub recorder : Watcher
recorder = record { noted = []; room = None }

abbrev pub first_few : ℕ → Watcher
first_few n = record { noted = []; room = Some n }

-- a watcher leaves with the change that uses up its room
abbrev pub WatchersLeave : Type 0
WatchersLeave =
    (after (first_few 1 ∷ recorder ∷ []) (changes five_turns) ≡ record { noted = changes five_turns; room = None } ∷ [])
    × (after (first_few 2 ∷ []) (first_change ∷ []) ≡ record { noted = first_change ∷ []; room = Some 1 } ∷ [])
    × (after (first_few 2 ∷ []) (first_change ∷ second_change ∷ []) ≡ [])

-- one that stays tells a line for each change
abbrev pub ChangesAreTold : Type 0
ChangesAreTold =
    (told [] (after (first_few 1 ∷ recorder ∷ []) (second_change ∷ third_change ∷ []))
    ≡ codes "turn 2 goal 2: 2, 3\nturn 3 goal 1: 1\n")
    × (told [] (recorder ∷ []) ≡ [])
