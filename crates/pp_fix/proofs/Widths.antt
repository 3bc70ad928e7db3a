-- A row to which a goal is narrowed has a column for each variable of its face.
use Rattle.std.proofs.Common.{ℕ, length, sym, ◌∙◌}
use Rattle.pp_algebra.specs.Rows.{Row}
use Rattle.pp_algebra.specs.Numbered.{call}
use Rattle.pp_algebra.proofs.Law.{count-covers}
use Rattle.pp_algebra.proofs.Numbered.{count-from}
use Rattle.pp_sld.specs.Goals.{Shape, Program}
use Rattle.pp_sld.specs.Verdicts.{Mode, Verdict, fail, same, nothing, unfinished, narrow, HasVerdict}
use Rattle.pp_fixpoint.proofs.Narrowed.{is_narrowing}
use Rattle.pp_fix.specs.Committing.{IsWideAt}

pub verdict_is_wide : (clauses : Program) (depth : ℕ) (m : Mode) (shape : Shape) (face : Row) (v : Verdict) → HasVerdict clauses depth m shape face v → IsWideAt face v
verdict_is_wide clauses depth m shape face fail h = tt
verdict_is_wide clauses depth m shape face same h = tt
verdict_is_wide clauses depth m shape face nothing h = tt
verdict_is_wide clauses depth m shape face unfinished h = tt
verdict_is_wide clauses depth m shape face (narrow r) h = sym (count-covers (call face) r (is_narrowing clauses depth m shape face r h).covered) ∙ count-from 0 (length face.domains)
