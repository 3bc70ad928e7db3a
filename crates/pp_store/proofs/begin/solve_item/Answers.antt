use Rattle.std.proofs.Common.{subst}
use Rattle.pp_algebra.specs.Terms.{count}
use Rattle.pp_term.specs.WellFormed.{IsItem}
use Rattle.pp_unify.specs.States.{present}
use Rattle.pp_store.proofs.Solving.{equation_over, membership_over}
use Rattle.pp_store.proofs.begin.solve_item.Goals as goal

pub unify-requires-clause-left : goal.unify-requires-clause-left
unify-requires-clause-left c = (equation_over (present c.args.bindings.now) c.in-Equate.left c.in-Equate.right (subst (IsItem (count (present c.args.bindings.now).columns)) c.in-Equate.is c.requires.item)).0

pub unify-requires-clause-right : goal.unify-requires-clause-right
unify-requires-clause-right c = (equation_over (present c.args.bindings.now) c.in-Equate.left c.in-Equate.right (subst (IsItem (count (present c.args.bindings.now).columns)) c.in-Equate.is c.requires.item)).1

pub narrow_to-requires : goal.narrow_to-requires
narrow_to-requires c = record { over = membership_over (present c.args.bindings.now) c.in-Member.term (subst (IsItem (count (present c.args.bindings.now).columns)) c.in-Member.is c.requires.item) }
