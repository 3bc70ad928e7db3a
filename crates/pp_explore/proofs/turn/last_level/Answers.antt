use Rattle.std.proofs.Common.{ℕ, ◌+◌, ◌-◌, ◌<◌, length, get_or, subst, sym}
use Rattle.pp_path.specs.Works.{code_level, work_by, HasMore}
use Rattle.pp_explore.specs.Searching.{IsPlaceOf}
use Rattle.pp_explore.proofs.Levels.{place_of_last, more_at_last}
use Rattle.pp_explore.proofs.turn.last_level.Goals as goal

pub returns-clause-place : goal.returns-clause-place
returns-clause-place c = subst (λ x. IsPlaceOf (work_by c.args.work.now) (get_or x (length x - 1) (code_level 0 0)).now) (sym c.path-levels.ensures) (place_of_last c.args.work.now (code_level 0 0) c.requires)

pub returns-clause-more : goal.returns-clause-more
returns-clause-more c = subst (λ x. (n : ℕ) → (get_or x (length x - 1) (code_level 0 0)).now + n < (get_or x (length x - 1) (code_level 0 0)).end → HasMore c.args.work.now n) (sym c.path-levels.ensures) (λ n. more_at_last c.args.work.now (code_level 0 0) n c.requires)
