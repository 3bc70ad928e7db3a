use Rattle.std.proofs.Common.{◌≡◌, subst}
use Rattle.pp_term.specs.Meanings.{mode_of}
use Rattle.pp_sld.specs.Findings.{finds_most, join_option}
use Rattle.pp_sld.specs.Lattice.{add_loose}
use Rattle.pp_find.specs.Common.{common}
use Rattle.pp_find.specs.Meanings.{FitsIn, finding_by}
use Rattle.pp_find.specs.Collected.{found_by}
use Rattle.pp_find.proofs.Taking.{loose_most, loose_fits}
use Rattle.pp_find.proofs.known.Known.add_loose.Goals as goal

-- where loose ends are kept apart
taken : (c : goal.In_ok-add_loose-in-Most) → finds_most (common c.add_loose.new.self.answers.items) (join_option (common c.add_loose.new.self.answers.items) (common c.add_loose.new.self.loose.items)) ≡ add_loose (mode_of c.args.findings.now.mode) c.args.row (finding_by (found_by c.args.self.now))
taken c =
    let m = mode_of c.args.findings.now.mode in
    let call = c.args.findings.now.call in
    let l = c.in-Most.leaves in
    rw (c.in-Most.is, c.add_loose.ensures.answers) (loose_most m call c.args.row (common l.answers.items) (join_option (common l.answers.items) (common l.loose.items)) (join_option (common l.answers.items) (common c.add_loose.new.self.loose.items)) (subst (λ k. ∥ FitsIn m call (found_by k) ∥₁) c.in-Most.is c.requires.fits) c.columns-canonical.ensures.row.canonical c.in_ok-add_loose-in-Most.ensures.added)

pub returns-in_ok-add_loose-in-Most-clause-added : goal.returns-in_ok-add_loose-in-Most-clause-added
returns-in_ok-add_loose-in-Most-clause-added c = taken c

pub returns-in_ok-add_loose-in-Most-clause-fits : goal.returns-in_ok-add_loose-in-Most-clause-fits
returns-in_ok-add_loose-in-Most-clause-fits c =
    loose_fits (mode_of c.args.findings.now.mode) c.args.findings.now.call c.args.row (finding_by (found_by c.args.self.now)) _ c.requires.fits c.requires.under c.columns-canonical.ensures.row.canonical (taken c)
