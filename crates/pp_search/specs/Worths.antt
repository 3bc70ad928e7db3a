-- What a work of a goal's search is worth, and when what a search of it found is right.
use Rattle.std.specs.Prelude.{◌≡◌, ℕ, List, Option}
use Rattle.pp_algebra.specs.Rows.{Row}
use Rattle.pp_algebra.specs.Numbered.{call}
use Rattle.pp_sld.specs.Goals.{Program, Shape}
use Rattle.pp_sld.specs.Leaves.{root}
use Rattle.pp_sld.specs.Verdicts.{Mode}
use Rattle.pp_sld.specs.Findings.{finding_of}
use Rattle.pp_sld.specs.Works.{worth}
use Rattle.pp_sld.proofs.Trees.{tree}
use Rattle.pp_core.specs.Worths.{with_worths}
use Rattle.pp_path.specs.declared.levels.Level.{Level}
use Rattle.pp_path.specs.Works.{work_by}
use Rattle.pp_find.specs.declared.finding.Finding.{Finding}
use Rattle.pp_find.specs.Meanings.{finding_to, joined, FitsIn}

module _ (clauses : Program) (shape : Shape) (face : Row) (depth : ℕ) (m : Mode) where
  -- the finding of the work's leaves in the search tree of the goal
  abbrev pub worth_of : Option (List Level) → Finding
  worth_of w = finding_to (finding_of m (worth (work_by w) (tree clauses (root shape face depth))))

  -- whatever was known, joined with it the task is worth what was found and what is left
  abbrev pub IsFit : Option (List Level) → Finding → List (Option (List Level)) → Type 0
  IsFit task found rest = (under : Finding) → ∥ FitsIn m (call face) under ∥₁
      → joined (worth_of task) under ≡ joined (with_worths worth_of joined found rest) under
