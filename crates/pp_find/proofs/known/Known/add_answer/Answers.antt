use Rattle.std.proofs.Common.{◌≡◌, subst}
use Rattle.pp_term.specs.Meanings.{mode_of}
use Rattle.pp_sld.specs.Findings.{finds_most, join_option}
use Rattle.pp_sld.specs.Lattice.{add_answer}
use Rattle.pp_find.specs.Common.{common, IsKept}
use Rattle.pp_find.specs.Meanings.{FitsIn, finding_by}
use Rattle.pp_find.specs.Collected.{found_by, IsKnown}
use Rattle.pp_find.proofs.Taking.{answer_most, answer_fits}
use Rattle.pp_find.proofs.Kept.{answers-under, loose-under, answer-more}
use Rattle.pp_find.proofs.known.Known.add_answer.Goals as goal

-- where answers are kept as several rows
taken : (c : goal.In_ok-add_answer-in-Most) → finds_most (common c.add_answer.new.self.answers.items) (join_option (common c.add_answer.new.self.answers.items) (common c.add_answer.new.self.loose.items)) ≡ add_answer (mode_of c.args.findings.now.mode) c.args.row (finding_by (found_by c.args.self.now))
taken c =
    let m = mode_of c.args.findings.now.mode in
    let call = c.args.findings.now.call in
    let l = c.in-Most.leaves in
    let kept : ∥ IsKept call l ∥₁ = subst (λ k. ∥ IsKnown call k ∥₁) c.in-Most.is c.requires.known in
    let more = answer-more call l.answers.items c.add_answer.new.self.answers.items l.loose.items c.args.row (answers-under call l.answers.items l.loose.items l.bound l.settled kept) (loose-under call l.answers.items l.loose.items l.bound l.settled kept) (c.requires.under, c.columns-canonical.ensures.row.canonical) c.in_ok-add_answer-in-Most.ensures.added in
    rw (c.in-Most.is, c.add_answer.ensures.loose) (answer_most m call c.args.row (common l.answers.items) (join_option (common l.answers.items) (common l.loose.items)) (common c.add_answer.new.self.answers.items) (join_option (common c.add_answer.new.self.answers.items) (common l.loose.items)) (subst (λ k. ∥ FitsIn m call (found_by k) ∥₁) c.in-Most.is c.requires.fits) c.columns-canonical.ensures.row.canonical c.in_ok-add_answer-in-Most.ensures.added more)

pub returns-in_ok-add_answer-in-Most-clause-added : goal.returns-in_ok-add_answer-in-Most-clause-added
returns-in_ok-add_answer-in-Most-clause-added c = taken c

pub returns-in_ok-add_answer-in-Most-clause-fits : goal.returns-in_ok-add_answer-in-Most-clause-fits
returns-in_ok-add_answer-in-Most-clause-fits c =
    answer_fits (mode_of c.args.findings.now.mode) c.args.findings.now.call c.args.row (finding_by (found_by c.args.self.now)) _ c.requires.fits c.requires.under c.columns-canonical.ensures.row.canonical (taken c)
