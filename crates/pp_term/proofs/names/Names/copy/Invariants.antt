use Rattle.std.proofs.Common.{◌≡◌, map, take, []}
use Rattle.pp_algebra.specs.Canon.{firsts}
use Rattle.pp_algebra.specs.Texts.{same_text}
use Rattle.pp_term.proofs.names.Names.copy.Given as goal

abbrev pub invariant-loop-text : goal.invariant-loop-text
invariant-loop-text l = l.copy ≡ firsts same_text [] (map (λ t. t.items) (take l.text-index l.text-items))
