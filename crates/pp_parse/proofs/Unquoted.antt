-- Unquoting an atom byte by byte.
use Rattle.std.proofs.Common.{Bool, true, false}
use Rattle.pp_language.specs.Texts.{Text}
use Rattle.pp_language.specs.Kinds.{unquoted_rest, unquoted_pair}

-- what is left to unquote: outside of a pair, or behind the first quote of one
abbrev pub unquoted_from : Bool → Text → Text
unquoted_from true bs = unquoted_rest bs
unquoted_from false bs = unquoted_pair bs
