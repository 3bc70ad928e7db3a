use Rattle.std.proofs.Common.{◌≡◌, ◌∙◌, rules}
use Rattle.pp_lgg.proofs.Table.{names_now, number_now}
use Rattle.pp_lgg.proofs.walk.number.Goals as goal

pub returns-clause-names : goal.returns-clause-names
returns-clause-names c = names_now c.args.pair c.requires.pair c.args.pairs.now.keys c.insert_full.new.self.keys c.requires.pairs c.in_ok-place.ensures.keys

pub returns-clause-place : goal.returns-clause-place
returns-clause-place c =
    let e : c.in_ok-number.number ≡ c.in_ok-place.place = search rules in
    e ∙ number_now c.args.pair c.requires.pair c.args.pairs.now.keys c.insert_full.new.self.keys c.requires.pairs c.in_ok-place.ensures.keys c.in_ok-place.place c.in_ok-place.ensures.index
