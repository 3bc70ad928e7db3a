use Rattle.pp_term.specs.Meanings.{mode_of}
use Rattle.pp_find.proofs.Alike.{parts_alike}
use Rattle.pp_find.proofs.lattice.FindingsLattice.join.Goals as goal

pub join_findings-requires : goal.join_findings-requires
join_findings-requires c = record { alike = parts_alike (mode_of c.args.self.now.mode) c.args.self.now.call c.args.a.now c.args.b.now c.requires.left c.requires.right }
