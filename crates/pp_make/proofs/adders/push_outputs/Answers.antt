use Rattle.std.proofs.Common.{add-one}
use Rattle.pp_make.proofs.Lines.{three}
use Rattle.pp_make.proofs.adders.push_outputs.Goals as goal

pub returns : goal.returns
returns c = three c.args.out.now.items _ _ _ _ _ _ c.in_ok-push_numbered.ensures (rw add-one at c.in_ok-push_numbered-2.ensures) c.in_ok-extend_from_slice.ensures.items
