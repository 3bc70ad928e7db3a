use Rattle.pp_find.proofs.Kept.{bound-width}
use Rattle.pp_find.proofs.leaves.Leaves.is_bounded.Goals as goal

pub covers-requires : goal.covers-requires
covers-requires c = record { same_width = bound-width c.args.call.now c.args.self.now.answers.items c.args.self.now.loose.items c.args.self.now.bound c.args.self.now.settled c.in-Some.bound c.args.row.now c.requires.kept c.in-Some.is c.requires.under }
