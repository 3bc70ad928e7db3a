use Rattle.std.proofs.Common.{Some, subst}
use Rattle.std.specs.Option.{IfNone}
use Rattle.pp_sld.specs.Lattice.{CoversIfSome}
use Rattle.pp_find.proofs.Taking.{alike_row, known, known_leaves, under_answers, under_leaves}
use Rattle.pp_find.proofs.findings.Findings.grow_both.Goals as goal

pub grown-requires : goal.grown-requires
grown-requires c = record { alike = alike_row c.args.self.now.call c.args.g.now c.args.row.now (under_answers c.args.self.now.call c.args.g.now c.args.h.now c.requires.fits) c.requires.under }

covered : (c : goal.In_default) → CoversIfSome c.args.g.now (Some c.args.row.now)
covered c = subst (λ o. IfNone o (CoversIfSome c.args.g.now (Some c.args.row.now))) c.in_default.is c.in_ok-answers.ensures.covered

pub returns-in_default-clause-answers : goal.returns-in_default-clause-answers
returns-in_default-clause-answers c = known c.args.self.now.call c.args.g.now c.args.row.now (under_answers c.args.self.now.call c.args.g.now c.args.h.now c.requires.fits) (covered c)

pub returns-in_default-clause-leaves : goal.returns-in_default-clause-leaves
returns-in_default-clause-leaves c = known_leaves c.args.self.now.call c.args.g.now c.args.h.now c.args.row.now c.requires.fits (covered c)

pub grow-requires-clause-known : goal.grow-requires-clause-known
grow-requires-clause-known c = under_leaves c.args.self.now.call c.args.g.now c.args.h.now c.requires.fits
