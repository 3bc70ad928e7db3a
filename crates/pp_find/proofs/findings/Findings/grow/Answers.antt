use Rattle.std.proofs.Common.{Some, subst}
use Rattle.std.specs.Option.{IfNone}
use Rattle.pp_sld.specs.Lattice.{CoversIfSome}
use Rattle.pp_find.proofs.Taking.{alike_row, known}
use Rattle.pp_find.proofs.findings.Findings.grow.Goals as goal

pub grown-requires : goal.grown-requires
grown-requires c = record { alike = alike_row c.args.self.now.call c.args.known.now c.args.row.now c.requires.known c.requires.under }

pub returns-in_default-clause-grown : goal.returns-in_default-clause-grown
returns-in_default-clause-grown c =
    known c.args.self.now.call c.args.known.now c.args.row.now c.requires.known (subst (λ o. IfNone o (CoversIfSome c.args.known.now (Some c.args.row.now))) c.in_default.is c.in_ok-grown.ensures.covered)
