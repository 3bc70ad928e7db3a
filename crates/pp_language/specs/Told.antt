-- What is told of a run beside its answer: a line for each change, and the summary of the run of a generated text.
use Rattle.std.specs.Prelude.{ℕ, suc, ◌+◌, Bool, List, [], ◌∷◌, ◌++◌, Option, Some, None, codes}
use Rattle.std.specs.Fmt.{decimal}
use Rattle.std.specs.FinSet as set
use Rattle.pp_algebra.specs.Terms.{int, node, variable, Trees, none, more}
use Rattle.pp_algebra.specs.Rows.{Domain, Row}
use Rattle.pp_language.specs.Texts.{Text}
use Rattle.pp_language.specs.Printing.{row_text}
use Rattle.pp_language.specs.Answers.{lines, last_line}

-- in this turn this goal was narrowed to this row
abbrev pub change_line : List Text → ℕ → ℕ → Row → Text
change_line names turn goal given = codes "turn " ++ decimal turn ++ codes " goal " ++ decimal goal ++ codes ": " ++ row_text names given

-- how many columns are no variable
abbrev pub bound_columns : Trees ℕ → ℕ
bound_columns none = 0
bound_columns (more (int n) ts) = suc (bound_columns ts)
bound_columns (more (node f us) ts) = suc (bound_columns ts)
bound_columns (more (variable v) ts) = bound_columns ts

-- the sizes of the finite domains, in sum
abbrev pub sum_of_sizes : List (Option Domain) → ℕ
sum_of_sizes [] = 0
sum_of_sizes (None ∷ ds) = sum_of_sizes ds
sum_of_sizes (Some d ∷ ds) = set.len d + sum_of_sizes ds

abbrev pub summary_lines : Text → ℕ → ℕ → ℕ → List Text
summary_lines verdict turns bound sizes =
    (codes "verdict " ++ verdict) ∷ (codes "turns " ++ decimal turns) ∷ (codes "bound " ++ decimal bound) ∷ (codes "sizes " ++ decimal sizes) ∷ []

-- the summary of a run that doesn't fail, whose store has a column for each of the query's variables
abbrev pub summary_text : ℕ → Row → Bool → Text
summary_text turns store stopped = lines (summary_lines (last_line stopped) turns (bound_columns store.columns) (sum_of_sizes store.domains))

-- the summary of a run that fails
abbrev pub failed_summary_text : ℕ → Text
failed_summary_text turns = lines (summary_lines (codes "no") turns 0 0)
