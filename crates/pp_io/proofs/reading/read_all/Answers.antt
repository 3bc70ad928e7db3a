use Rattle.std.proofs.Common.{◌++◌, take, arith, refl}
use Rattle.pp_io.proofs.Pieces.{gave_more, length-added}
use Rattle.pp_io.proofs.reading.read_all.Goals as goal

pub returns-then-limit-len-clause-taken : goal.returns-then-limit-len-clause-taken
returns-then-limit-len-clause-taken g c = (
  c.loop-bytes.bytes.items ++ take c.in_ok-n.n c.read.new.buf,
  gave_more _ _ _ _ _ c.loop-bytes.invariant.given c.in_ok-n.ensures.given,
  (λ _. omega (arith, length-added c.loop-bytes.bytes.items c.read.new.buf _ c.in_ok-n.ensures.within), λ _. refl),
)

pub returns-in_err-extend_from_slice-clause-taken :
    goal.returns-in_err-extend_from_slice-clause-taken
returns-in_err-extend_from_slice-clause-taken g c = (
  c.loop-bytes.bytes.items ++ take c.in_ok-n.n c.read.new.buf,
  gave_more _ _ _ _ _ c.loop-bytes.invariant.given c.in_ok-n.ensures.given,
  (
    λ too_long. let memory = rw too_long at c.from_residual-in_err-extend_from_slice.ensures.1 in cc,
    λ longer. absurd (omega (arith, length-added c.loop-bytes.bytes.items c.read.new.buf _ c.in_ok-n.ensures.within)),
  ),
)
