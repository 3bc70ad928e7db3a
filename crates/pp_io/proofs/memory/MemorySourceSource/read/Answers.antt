use Rattle.std.proofs.Common.{sym, ap, ◌∙◌, arith}
use Rattle.std.proofs.lemmas.Grind.{common_steps}
use Rattle.pp_io.specs.Memory.{MemoryEnd}
use Rattle.pp_io.proofs.Pieces.{gave_from}
use Rattle.pp_io.proofs.memory.MemorySourceSource.read.Goals as goal

pub returns-clause-given : goal.returns-clause-given
returns-clause-given c =
    sym (ap (λ (e : MemoryEnd). e.bytes) c.self.view_is)
    ∙ gave_from c.self.inside.bytes.items c.give-n.new.into c.self.inside.given c.give-n.result
    (grind (arith, common_steps, c.deref.ensures.value, c.give-n.ensures.given))
