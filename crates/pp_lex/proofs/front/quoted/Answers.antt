use Rattle.std.proofs.Common.{subst}
use Rattle.std.proofs.lemmas.List.{take_rest}
use Rattle.pp_lex.specs.Fronts.{IsLongestRest}
use Rattle.pp_lex.proofs.Fronts.{quoted_front}
use Rattle.pp_lex.proofs.front.quoted.Goals as goal

pub returns : goal.returns
returns c =
    let size = c.in_ok-size.size in
    quoted_front c.args.rest.now size c.requires.some c.requires.begins (subst (λ bs. IsLongestRest bs size) (take_rest c.args.rest.now 1) c.in_ok-size.ensures)
