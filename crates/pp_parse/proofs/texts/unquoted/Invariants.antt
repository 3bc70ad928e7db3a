use Rattle.std.proofs.Common.{◌≡◌, ◌++◌, drop}
use Rattle.pp_language.specs.Kinds.{unquoted_rest}
use Rattle.pp_parse.proofs.Unquoted.{unquoted_from}
use Rattle.pp_parse.proofs.texts.unquoted.Given as goal

abbrev pub invariant-loop-byte : goal.invariant-loop-byte
invariant-loop-byte l = l.text.items ++ unquoted_from l.is_open (drop l.byte-index l.rest) ≡ unquoted_rest l.rest
