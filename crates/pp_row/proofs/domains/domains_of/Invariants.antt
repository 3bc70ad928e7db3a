use Rattle.std.proofs.Common.{◌≡◌, map}
use Rattle.pp_algebra.specs.Rows.{domain_at}
use Rattle.pp_row.specs.Columns.{sets_of}
use Rattle.pp_row.proofs.domains.domains_of.Given as goal

abbrev pub invariant-loop-name : goal.invariant-loop-name
invariant-loop-name l = sets_of l.list.items ≡ map (domain_at (sets_of l.domains)) (map (λ b. b.now) l.yielded)
