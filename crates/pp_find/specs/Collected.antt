-- What a collector stands for: a finding of a mode and a call.
use Rattle.std.specs.Prelude.{refl}
use Rattle.std.specs.Coded.{Coded, code_by, coded×}
use Rattle.pp_algebra.specs.Rows.{Row}
use Rattle.pp_row.specs.Codes.{row_code}
use Rattle.pp_sld.specs.Findings.{join_option}
use Rattle.pp_term.specs.declared.pred.Mode.{Mode}
use Rattle.pp_term.specs.contracts.pred.Mode as mode
use Rattle.pp_find.specs.declared.finding.Finding.{Finding}
use Rattle.pp_find.specs.declared.finding.Finding.TheVariants.{Most}
use Rattle.pp_find.specs.contracts.finding.Finding as finding
use Rattle.pp_find.specs.declared.known.Known.{Known}
use Rattle.pp_find.specs.declared.known.Known.TheVariants as kept
use Rattle.pp_find.specs.Common.{common, IsKept}

pub record Collected : Type 0 where
  pub mode : Mode
  pub call : Row
  pub finding : Finding

abbrev pub collected_code : Coded Collected
collected_code = code_by (Mode × (Row × Finding)) (coded× mode.the_row.coded (coded× row_code finding.the_row.coded))
    (λ c. (c.mode, (c.call, c.finding))) (λ p. record { mode = p.0; call = p.1.0; finding = p.1.1 }) (λ _. refl)

-- the finding that is kept: the loose ends' rows are joined to those of the answers
abbrev pub found_by : Known → Finding
found_by (kept.Most l) = Most (common l.answers.items) (join_option (common l.answers.items) (common l.loose.items))
found_by (kept.Other f) = f

abbrev pub IsKnown : Row → Known → Type 0
IsKnown call (kept.Most l) = IsKept call l
IsKnown call (kept.Other f) = Unit {0}
