use Rattle.std.proofs.Common.{subst, sym}
use Rattle.pp_language.specs.declared.token.Kind.TheVariants.{Variable}
use Rattle.pp_lex.specs.Fronts.{IsFront}
use Rattle.pp_lex.proofs.Fronts.{variable_front}
use Rattle.pp_lex.proofs.front.variable.Goals as goal

pub returns : goal.returns
returns c = subst (IsFront c.args.rest.now Variable) (sym c.word_size.ensures) (variable_front c.args.rest.now c.requires.some c.requires.begins)
