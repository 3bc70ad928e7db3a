-- The laws of the lattice of findings.
use Rattle.std.proofs.Common.{◌≡◌, true, [], refl, ap, sym, ◌∙◌, subst}
use Rattle.std.proofs.Math.Logic.{∥∥₁_elim, ∥∥₁_map, ∥∥₁_prop}
use Rattle.std.specs.Coded.{Coded-set, coded_bool}
use Rattle.pp_algebra.specs.Rows.{Row}
use Rattle.pp_sld.specs.Verdicts.{Mode}
use Rattle.pp_sld.specs.Findings as sld
use Rattle.pp_find.specs.declared.finding.Sole.{Sole}
use Rattle.pp_find.specs.declared.finding.Sole.TheVariants as soles
use Rattle.pp_find.specs.declared.finding.Finding.{Finding}
use Rattle.pp_find.specs.declared.finding.Finding.TheVariants.{Most, Unique, Consistent}
use Rattle.pp_find.specs.contracts.finding.Finding as finding
use Rattle.pp_find.specs.contracts.verdict.Verdict as verdict
use Rattle.pp_sld.specs.Lattice.{Fits}
use Rattle.pp_find.specs.Meanings.{sole_by, sole_to, finding_by, finding_to, verdict_to, joined, none_yet, FitsIn, settled_by, outcome_by}
use Rattle.pp_sld.proofs.Joining.{join-unit, join-again, join-turned, join-grouped, none-fits, join-fits, join-stays}

sole-there : (s : sld.Sole) → sole_by (sole_to s) ≡ s
sole-there sld.no_row = refl
sole-there (sld.one_row r) = refl
sole-there sld.two_rows = refl

sole-back : (s : Sole) → sole_to (sole_by s) ≡ s
sole-back soles.None = refl
sole-back (soles.One r) = refl
sole-back soles.Two = refl

pub there : (a : sld.Finding) → finding_by (finding_to a) ≡ a
there (sld.finds_most g h) = refl
there (sld.finds_unique s b) = ap (λ x. sld.finds_unique x b) (sole-there s)
there (sld.finds_consistent a b) = refl

pub back : (a : Finding) → finding_to (finding_by a) ≡ a
back (Most g h) = refl
back (Unique s b) = ap (λ x. Unique x b) (sole-back s)
back (Consistent a b) = refl

module _ (m : Mode) (call : Row) where
  pub bottom_fits : ∥ FitsIn m call (none_yet m) ∥₁
  bottom_fits = ∣ subst (Fits m call) (sym (there (sld.finding m [] []))) (none-fits m call) ∣₁

  pub both_fit : (a b : Finding) → ∥ FitsIn m call a ∥₁ → ∥ FitsIn m call b ∥₁ → ∥ FitsIn m call (joined a b) ∥₁
  both_fit a b fa fb = ∥∥₁_elim fa ∥∥₁_prop
      (λ x. ∥∥₁_map fb (λ y. subst (Fits m call) (sym (there (sld.join_finding (finding_by a) (finding_by b))))
      (join-fits m call (finding_by a) (finding_by b) x y)))

  pub unit : (a : Finding) → ∥ FitsIn m call a ∥₁ → joined (none_yet m) a ≡ a
  unit a fa = ∥∥₁_elim fa (Coded-set finding.the_row.coded _ _) (λ x.
      ap (λ z. finding_to (sld.join_finding z (finding_by a))) (there (sld.finding m [] [])) ∙ ap finding_to
      (join-unit m call (finding_by a) x) ∙ back a)

  pub again : (a : Finding) → ∥ FitsIn m call a ∥₁ → joined a a ≡ a
  again a fa = ∥∥₁_elim fa (Coded-set finding.the_row.coded _ _)
      (λ x. ap finding_to (join-again m call (finding_by a) x) ∙ back a)

  pub turned : (a b : Finding) → ∥ FitsIn m call a ∥₁ → ∥ FitsIn m call b ∥₁ → joined a b ≡ joined b a
  turned a b fa fb = ∥∥₁_elim fa (Coded-set finding.the_row.coded _ _)
      (λ x. ∥∥₁_elim fb (Coded-set finding.the_row.coded _ _)
      (λ y. ap finding_to (join-turned m call (finding_by a) (finding_by b) x y)))

  pub grouped : (a b c : Finding) → ∥ FitsIn m call a ∥₁ → ∥ FitsIn m call b ∥₁ → ∥ FitsIn m call c ∥₁
      → joined (joined a b) c ≡ joined a (joined b c)
  grouped a b c fa fb fc = ∥∥₁_elim fa (Coded-set finding.the_row.coded _ _)
      (λ x. ∥∥₁_elim fb (Coded-set finding.the_row.coded _ _)
      (λ y. ∥∥₁_elim fc (Coded-set finding.the_row.coded _ _) (λ z.
      ap (λ w. finding_to (sld.join_finding w (finding_by c))) (there (sld.join_finding (finding_by a) (finding_by b)))
      ∙ ap finding_to (join-grouped m call (finding_by a) (finding_by b) (finding_by c) x y z)
      ∙ ap (λ w. finding_to (sld.join_finding (finding_by a) w))
      (sym (there (sld.join_finding (finding_by b) (finding_by c)))))))

  pub stays : (a b : Finding) → ∥ FitsIn m call a ∥₁ → ∥ FitsIn m call b ∥₁ → joined a b ≡ b → settled_by call a ≡ true
      → (settled_by call b ≡ true) × (outcome_by call a ≡ outcome_by call b)
  stays a b fa fb e s =
      let j : sld.join_finding (finding_by a) (finding_by b)
      ≡ finding_by b = sym (there (sld.join_finding (finding_by a) (finding_by b))) ∙ ap finding_by e in (
        ∥∥₁_elim fa (Coded-set coded_bool _ _)
            (λ x. ∥∥₁_elim fb (Coded-set coded_bool _ _)
            (λ y. (join-stays m call (finding_by a) (finding_by b) x y j s).0)),
        ∥∥₁_elim fa (Coded-set verdict.the_row.coded _ _)
            (λ x. ∥∥₁_elim fb (Coded-set verdict.the_row.coded _ _)
            (λ y. ap verdict_to (join-stays m call (finding_by a) (finding_by b) x y j s).1)),
      )
