use Rattle.std.proofs.Common.{ap, sym, ◌∙◌, arith}
use Rattle.std.proofs.lemmas.Int.{ints}
use Rattle.std.specs.FinSet as set
use Rattle.pp_domain.specs.Sets.{set_of}
use Rattle.pp_domain.proofs.Words.{word_is}
use Rattle.pp_unify.specs.States.{present}
use Rattle.pp_store.proofs.Narrowing.{variable_over, integer_is_decided, legal_integer}
use Rattle.pp_store.proofs.begin.narrow_term.Goals as goal

pub narrow-requires : goal.narrow-requires
narrow-requires c = record { within = variable_over (present c.args.bindings.now) c.args.term.now c.in-Var.variable (sym c.top.ensures.top ∙ c.in-Var.is) c.requires.over }

pub returns-in-Int : goal.returns-in-Int
returns-in-Int c =
    let is = legal_integer c.top.result c.in-Int.value c.top.ensures.legal c.in-Int.is in
    let word = word_is c.in-Int.value (omega (arith, ints, is.at_least)) (omega (arith, ints, is.at_most)) in
    record { solved = integer_is_decided (present c.args.bindings.now) (set_of c.args.domain.now) c.len-variables.ensures.row c.args.term.now c.in-Int.value (sym c.top.ensures.top ∙ c.in-Int.is) c.has.result (c.has.ensures ∙ ap (set.contains (set_of c.args.domain.now)) word) }
