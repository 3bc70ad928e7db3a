-- Findings that fit have rows of one width.
use Rattle.std.proofs.Common.{Option, Some, None, sym, ◌∙◌}
use Rattle.std.proofs.Math.Logic.{∥∥₁_elim, ∥∥₁_map}
use Rattle.std.specs.Coded.{Coded-set, coded_ℕ}
use Rattle.pp_algebra.specs.Rows.{Row}
use Rattle.pp_algebra.proofs.Law.{count-covers}
use Rattle.pp_sld.specs.Verdicts.{Mode, most, unique, consistent}
use Rattle.pp_sld.specs.Findings as sld
use Rattle.pp_sld.specs.Lattice.{Fits, UnderIfSome}
use Rattle.pp_find.specs.declared.finding.Finding.{Finding}
use Rattle.pp_find.specs.declared.finding.Finding.TheVariants.{Most, Unique, Consistent}
use Rattle.pp_find.specs.Meanings.{FitsIn, AreAlike, PartsAlike}

pub parts : (m : Mode) (call : Row) (g h : Option Row) → Fits m call (sld.finds_most g h) → UnderIfSome call g × UnderIfSome call h
parts most call g h f = (f.0, f.1)
parts unique call g h f = absurd f
parts consistent call g h f = absurd f

pub alike : (call : Row) (g k : Option Row) → ∥ UnderIfSome call g ∥₁ → ∥ UnderIfSome call k ∥₁ → AreAlike g k
alike call None k x y = tt
alike call (Some r) None x y = tt
alike call (Some r) (Some q) x y = ∥∥₁_elim x (Coded-set coded_ℕ _ _) (λ a. ∥∥₁_elim y (Coded-set coded_ℕ _ _) (λ b. sym (count-covers call r a.0) ∙ count-covers call q b.0))

pub parts_alike : (m : Mode) (call : Row) (a b : Finding) → ∥ FitsIn m call a ∥₁ → ∥ FitsIn m call b ∥₁ → PartsAlike a b
parts_alike m call (Most g h) (Most k l) x y = (
  alike call g k (∥∥₁_map x (λ f. (parts m call g h f).0)) (∥∥₁_map y (λ f. (parts m call k l f).0)),
  alike call h l (∥∥₁_map x (λ f. (parts m call g h f).1)) (∥∥₁_map y (λ f. (parts m call k l f).1)),
)
parts_alike m call (Most g h) (Unique t c) x y = tt
parts_alike m call (Most g h) (Consistent c d) x y = tt
parts_alike m call (Unique s b) y' x y = tt
parts_alike m call (Consistent a b) y' x y = tt
