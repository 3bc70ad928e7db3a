use Rattle.std.proofs.Common.{◌≡◌, ◌++◌, drop}
use Rattle.pp_language.specs.Printing.{doubled}
use Rattle.pp_print.proofs.atoms.write_doubled.Given as goal

abbrev pub invariant-loop-byte : goal.invariant-loop-byte
invariant-loop-byte l = l.out.items ++ doubled (drop l.byte-index l.text) ≡ l.initial.out.items ++ doubled l.text
