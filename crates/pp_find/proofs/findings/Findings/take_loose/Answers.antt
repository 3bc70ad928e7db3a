use Rattle.std.proofs.Common.{◌≡◌, subst}
use Rattle.pp_term.specs.Meanings.{mode_of}
use Rattle.pp_sld.specs.Findings.{finds_most}
use Rattle.pp_sld.specs.Lattice.{add_loose}
use Rattle.pp_find.specs.Meanings.{FitsIn, finding_by, sole_by}
use Rattle.pp_find.proofs.Taking.{most_fits, under_leaves, loose_most, loose_unique, loose_consistent, loose_fits}
use Rattle.pp_find.proofs.findings.Findings.take_loose.Goals as goal

pub grow-requires-clause-known : goal.grow-requires-clause-known
grow-requires-clause-known c =
    let m = mode_of c.args.self.now.mode in
    let call = c.args.self.now.call in
    under_leaves call c.in-Most.g c.in-Most.h (most_fits m call c.in-Most.g c.in-Most.h (subst (λ f. ∥ FitsIn m call f ∥₁) c.in-Most.is c.requires.fits))

taken_most : (c : goal.In_ok-grow-in-Most) → finds_most c.in-Most.g c.grow.new.known ≡ add_loose (mode_of c.args.self.now.mode) c.args.row.now (finding_by c.args.finding.now)
taken_most c =
    let m = mode_of c.args.self.now.mode in
    let call = c.args.self.now.call in
    rw c.in-Most.is (loose_most m call c.args.row.now c.in-Most.g c.in-Most.h c.grow.new.known (subst (λ f. ∥ FitsIn m call f ∥₁) c.in-Most.is c.requires.fits) c.columns-canonical.ensures.row.canonical c.in_ok-grow-in-Most.ensures.grown)

pub returns-in_ok-grow-in-Most-clause-fits : goal.returns-in_ok-grow-in-Most-clause-fits
returns-in_ok-grow-in-Most-clause-fits c =
    loose_fits (mode_of c.args.self.now.mode) c.args.self.now.call c.args.row.now (finding_by c.args.finding.now) (finds_most c.in-Most.g c.grow.new.known) c.requires.fits c.requires.under c.columns-canonical.ensures.row.canonical (taken_most c)

pub returns-in_ok-grow-in-Most-clause-taken : goal.returns-in_ok-grow-in-Most-clause-taken
returns-in_ok-grow-in-Most-clause-taken c = taken_most c

pub returns-in-Unique-clause-taken : goal.returns-in-Unique-clause-taken
returns-in-Unique-clause-taken c =
    let m = mode_of c.args.self.now.mode in
    let call = c.args.self.now.call in
    rw c.in-Unique.is (loose_unique m call c.args.row.now (sole_by c.in-Unique.sole) c.in-Unique.loose (subst (λ f. ∥ FitsIn m call f ∥₁) c.in-Unique.is c.requires.fits))

pub returns-in-Consistent-clause-taken : goal.returns-in-Consistent-clause-taken
returns-in-Consistent-clause-taken c =
    let m = mode_of c.args.self.now.mode in
    let call = c.args.self.now.call in
    rw c.in-Consistent.is (loose_consistent m call c.args.row.now c.in-Consistent.any c.in-Consistent.loose (subst (λ f. ∥ FitsIn m call f ∥₁) c.in-Consistent.is c.requires.fits))
