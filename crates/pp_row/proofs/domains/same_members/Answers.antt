use Rattle.std.proofs.Common.{sym, ap, ◌∙◌}
use Rattle.std.proofs.lemmas.Bool.Decides.{Decides-at}
use Rattle.pp_domain.specs.Sets.{set_of}
use Rattle.pp_domain.proofs.Canonical.{sets_tell_domains}
use Rattle.pp_domain.proofs.Equal.{intervals_tell}
use Rattle.pp_row.proofs.domains.same_members.Goals as goal

pub returns : goal.returns
returns c =
    let d = Decides-at _ _ c.eq.ensures (intervals_tell c.intervals.result.now c.intervals-2.result.now) in (
      λ h. ap (λ ps. set_of ps) (sym c.intervals.ensures.same ∙ d.0 h ∙ c.intervals-2.ensures.same),
      λ h. d.1 (c.intervals.ensures.same ∙ sets_tell_domains c.args.left.now c.args.right.now c.intervals.ensures.domain c.intervals-2.ensures.domain h ∙ sym c.intervals-2.ensures.same),
    )
