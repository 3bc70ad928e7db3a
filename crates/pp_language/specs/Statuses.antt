-- The exit status of each way in which a run of the program ends.
use Rattle.std.specs.Prelude.{ℕ}
use Rattle.pp_language.specs.declared.status.Status.{Status}
use Rattle.pp_language.specs.declared.status.Status.TheVariants.{Yes, No, Usage, Syntax, Stopped, Limit, ReadFault, WriteFault, Memory}

abbrev pub code_of : Status → ℕ
code_of Yes = 0
code_of No = 1
code_of Usage = 2
code_of Syntax = 3
code_of Stopped = 4
code_of Limit = 5
code_of ReadFault = 6
code_of WriteFault = 7
code_of Memory = 8
