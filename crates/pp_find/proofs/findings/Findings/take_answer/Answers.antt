use Rattle.std.proofs.Common.{subst}
use Rattle.pp_term.specs.Meanings.{mode_of}
use Rattle.pp_sld.specs.Findings.{finds_most}
use Rattle.pp_find.specs.Meanings.{FitsIn, finding_by, sole_by}
use Rattle.pp_find.proofs.Taking.{most_fits, answer_most, answer_unique, answer_consistent, answer_fits}
use Rattle.pp_find.proofs.findings.Findings.take_answer.Goals as goal

pub grow_both-requires-clause-fits : goal.grow_both-requires-clause-fits
grow_both-requires-clause-fits c =
    let m = mode_of c.args.self.now.mode in
    let call = c.args.self.now.call in
    most_fits m call c.in-Most.g c.in-Most.h (subst (λ f. ∥ FitsIn m call f ∥₁) c.in-Most.is c.requires.fits)

pub returns-in_ok-grow_both-in-Most-clause-taken : goal.returns-in_ok-grow_both-in-Most-clause-taken
returns-in_ok-grow_both-in-Most-clause-taken c =
    let m = mode_of c.args.self.now.mode in
    let call = c.args.self.now.call in
    rw c.in-Most.is (answer_most m call c.args.row c.in-Most.g c.in-Most.h c.grow_both.new.g c.grow_both.new.h (subst (λ f. ∥ FitsIn m call f ∥₁) c.in-Most.is c.requires.fits) c.columns-canonical.ensures.row.canonical c.in_ok-grow_both-in-Most.ensures.answers c.in_ok-grow_both-in-Most.ensures.leaves)

pub returns-in_ok-grow_both-in-Most-clause-fits : goal.returns-in_ok-grow_both-in-Most-clause-fits
returns-in_ok-grow_both-in-Most-clause-fits c =
    answer_fits (mode_of c.args.self.now.mode) c.args.self.now.call c.args.row (finding_by c.args.finding.now) (finds_most c.grow_both.new.g c.grow_both.new.h) c.requires.fits c.requires.under c.columns-canonical.ensures.row.canonical (returns-in_ok-grow_both-in-Most-clause-taken c)

pub returns-in-Unique-clause-taken : goal.returns-in-Unique-clause-taken
returns-in-Unique-clause-taken c =
    let m = mode_of c.args.self.now.mode in
    let call = c.args.self.now.call in
    rw c.in-Unique.is (answer_unique m call c.args.row (sole_by c.in-Unique.sole) (sole_by c.take_sole.new.sole) c.in-Unique.loose (subst (λ f. ∥ FitsIn m call f ∥₁) c.in-Unique.is c.requires.fits) c.take_sole.ensures)

pub returns-in-Consistent-clause-taken : goal.returns-in-Consistent-clause-taken
returns-in-Consistent-clause-taken c =
    let m = mode_of c.args.self.now.mode in
    let call = c.args.self.now.call in
    rw c.in-Consistent.is (answer_consistent m call c.args.row c.in-Consistent.any c.in-Consistent.loose (subst (λ f. ∥ FitsIn m call f ∥₁) c.in-Consistent.is c.requires.fits))
