use Rattle.std.proofs.Common.{arith, ◌≤◌, Some, None, sym, subst}
use Rattle.std.proofs.lemmas.List.Elements.{All-nil}
use Rattle.std.specs.FinSet as set
use Rattle.pp_algebra.specs.Rows.{IsWide, AreWide}
use Rattle.pp_domain.specs.Sets.{set_of}
use Rattle.pp_row.specs.Columns.{sets_of}
use Rattle.pp_row.proofs.DomainLists.{wide_push}
use Rattle.pp_find.proofs.bound.domains_at.Goals as goal

pub loop-init : goal.loop-init
loop-init c = subst (λ z. AreWide (sets_of z)) (sym c.new-domains.ensures.items) (All-nil IsWide)

pub loop-preserved : goal.loop-preserved
loop-preserved c = subst (λ z. AreWide (sets_of z)) (sym c.in_ok-push.ensures.items) (wide_push c.loop.domains.items None c.loop.invariant tt)

pub returns : goal.returns
returns c =
    let two : 2 ≤ set.len (set_of c.args.domain) = omega (arith, c.size.ensures, c.if-size-lt2.false) in
    subst (λ z. AreWide (sets_of z)) (sym c.in_ok-push-2.ensures.items) (wide_push c.loop.domains.items (Some c.args.domain) c.loop.invariant two)
