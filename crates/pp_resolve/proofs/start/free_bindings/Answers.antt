use Rattle.pp_unify.specs.States.{present}
use Rattle.pp_resolve.proofs.FreeRows.{wide_copy, set_more}
use Rattle.pp_resolve.proofs.start.free_bindings.Goals as goal

pub add-requires : goal.add-requires
add-requires c = record { wide = wide_copy c.args.domains.now c.loop-domain.domain-index c.domain-item.result c.in_ok-copy_domain.field-0 c.requires c.loop-domain-test.true c.domain-item.is c.in_ok-copy_domain.ensures }

pub loop-domain-preserved : goal.loop-domain-preserved
loop-domain-preserved c =
    set_more c.args.domains.now c.loop-domain.domain-index c.domain-item.result c.in_ok-copy_domain.field-0 (present c.loop-domain.bindings) (present c.add.new.self) c.loop-domain-test.true c.domain-item.is c.in_ok-copy_domain.ensures c.loop-domain.invariant c.in_ok-add.ensures.added
