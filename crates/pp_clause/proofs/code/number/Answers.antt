use Rattle.std.proofs.Common.{◌≡◌, ◌∙◌, rules}
use Rattle.pp_clause.proofs.Numbers.{taken_pred, number_taken, taken_grown}
use Rattle.pp_clause.proofs.code.number.Goals as goal

pub returns-clause-predicates : goal.returns-clause-predicates
returns-clause-predicates c = taken_pred c.args.predicates.now.keys c.insert_full.new.self.keys c.args.pred c.in_ok-place.ensures.keys

pub returns-clause-number : goal.returns-clause-number
returns-clause-number c =
    let e : c.in_ok-number.number ≡ c.in_ok-place.place = search rules in
    number_taken c.args.predicates.now.keys c.insert_full.new.self.keys c.args.pred c.in_ok-place.ensures.keys c.in_ok-number.number (e ∙ c.in_ok-place.ensures.index)

pub returns-clause-grown : goal.returns-clause-grown
returns-clause-grown c = taken_grown c.args.predicates.now.keys c.insert_full.new.self.keys c.args.pred c.in_ok-place.ensures.keys

pub returns-in_err-number-clause-grown : goal.returns-in_err-number-clause-grown
returns-in_err-number-clause-grown c = taken_grown c.args.predicates.now.keys c.insert_full.new.self.keys c.args.pred c.in_ok-place.ensures.keys
