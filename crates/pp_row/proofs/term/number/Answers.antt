use Rattle.std.proofs.Common.{◌≡◌, ◌∙◌, rules}
use Rattle.pp_row.proofs.Keys.{taken_number, place_number}
use Rattle.pp_row.proofs.term.number.Goals as goal

pub returns-clause-names : goal.returns-clause-names
returns-clause-names c = taken_number c.args.names.now.keys c.insert_full.new.self.keys c.args.variable c.in_ok-place.ensures.keys

pub returns-clause-place : goal.returns-clause-place
returns-clause-place c =
    let e : c.in_ok-number.number ≡ c.in_ok-place.place = search rules in
    e ∙ place_number c.args.names.now.keys c.insert_full.new.self.keys c.args.variable c.in_ok-place.place c.in_ok-place.ensures.keys c.in_ok-place.ensures.index
