-- A leaf that is known to be covered.
use Rattle.std.proofs.Common.{Option, Some, None}
use Rattle.std.specs.Prelude.{IfSome, MatchOption}

-- what is said of the row that is there
pub of_both : {X : Type 0} (o : Option X) (P Q : X → Type 0) (R : Type 0) → MatchOption o ⊥ P → IfSome o Q → ((x : X) → P x → Q x → R) → R
of_both None P Q R h k f = absurd h
of_both (Some x) P Q R h k f = f x h k
