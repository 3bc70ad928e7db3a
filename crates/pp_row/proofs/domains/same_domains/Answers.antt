use Rattle.std.proofs.Common.{◌≡◌, true, sym, ap, ◌∙◌, arith}
use Rattle.pp_row.specs.Columns.{set_by}
use Rattle.pp_row.proofs.DomainLists.{same_at, same_more}
use Rattle.pp_row.proofs.domains.same_domains.Goals as goal

pub returns-then-not-same_domain : goal.returns-then-not-same_domain
returns-then-not-same_domain c = (
  λ h. absurd (cc),
  λ h.
      let s = same_at c.args.left.now c.args.right.now c.loop-i.i c.index-left-i.result c.index-right-i.result h (omega arith) (omega arith) in
      let t : c.same_domain.result ≡ true = c.same_domain.ensures.1 (ap set_by c.index-left-i.is ∙ s ∙ sym (ap set_by c.index-right-i.is)) in
      absurd (cc),
)

pub loop-i-preserved : goal.loop-i-preserved
loop-i-preserved c =
    let s = c.same_domain.ensures.0 c.if-not-same_domain.false in
    same_more c.args.left.now c.args.right.now c.loop-i.i c.index-left-i.result c.index-right-i.result (omega arith) (omega arith) c.loop-i.invariant (sym (ap set_by c.index-left-i.is) ∙ s ∙ ap set_by c.index-right-i.is)
