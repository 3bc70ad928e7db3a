use Rattle.std.proofs.Common.{◌≡◌, take}
use Rattle.pp_row.specs.Columns.{sets_of}
use Rattle.pp_unify.specs.States.{present}
use Rattle.pp_resolve.specs.Starting.{free_row}
use Rattle.pp_resolve.proofs.start.free_bindings.Given as goal

abbrev pub invariant-loop-domain : goal.invariant-loop-domain
invariant-loop-domain l = (present l.bindings ≡ free_row (sets_of (take l.domain-index l.domains)))
