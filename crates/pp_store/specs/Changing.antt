-- The face of a goal by its number, and whether it isn't what it was.
use Rattle.std.specs.Prelude.{ℕ, Bool, not, List, [], Option, Some, None}
use Rattle.pp_algebra.specs.Terms.{none}
use Rattle.pp_algebra.specs.Rows.{Row}
use Rattle.pp_algebra.specs.Canon.{same_row}
use Rattle.pp_propagation.specs.Stores.{Asked, face}
use Rattle.pp_propagation.specs.Turns.{goal_at}

abbrev pub face_by : Row → Option Asked → Row
face_by store None = record { columns = none; domains = [] }
face_by store (Some a) = face store a.goal

-- of goal number k; nothing asks for the face of a goal that there is not
abbrev pub face_at : List Asked → Row → ℕ → Row
face_at goals store k = face_by store (goal_at goals k)

abbrev pub differs : List Asked → Row → Row → ℕ → Bool
differs goals old new k = not (same_row (face_at goals old k) (face_at goals new k))
