use Rattle.std.proofs.Common.{◌≡◌, ◌+◌, drop}
use Rattle.pp_language.specs.Told.{sum_of_sizes}
use Rattle.pp_row.specs.Columns.{sets_of}
use Rattle.pp_run.proofs.summary.sum_of_sizes.Given as goal

abbrev pub invariant-loop-domain : goal.invariant-loop-domain
invariant-loop-domain l = l.sum + sum_of_sizes (sets_of (drop l.domain-index l.domains)) ≡ sum_of_sizes (sets_of l.domains)
