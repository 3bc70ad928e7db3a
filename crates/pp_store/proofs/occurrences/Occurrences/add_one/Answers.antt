use Rattle.pp_store.proofs.Noting.{one_more_set, one_same_set}
use Rattle.pp_store.proofs.occurrences.Occurrences.add_one.Goals as goal

pub returns-in_err-insert-clause-more : goal.returns-in_err-insert-clause-more
returns-in_err-insert-clause-more c =
    one_same_set c.self.inside.sets.items (λ x. x.keys) c.args.self.now c.args.number c.args.variable c.index_mut.result.now c.insert.new.self c.self.view_is c.requires.within c.index_mut.ensures.value c.in_err-insert.ensures.err

pub returns-clause-more : goal.returns-clause-more
returns-clause-more c =
    (one_more_set c.self.inside.sets.items (λ x. x.keys) c.args.self.now c.args.number c.args.variable c.index_mut.result.now c.insert.new.self c.self.view_is c.requires.within c.index_mut.ensures.value c.in_ok-insert.ensures.keys).0

pub returns-clause-added : goal.returns-clause-added
returns-clause-added c =
    (one_more_set c.self.inside.sets.items (λ x. x.keys) c.args.self.now c.args.number c.args.variable c.index_mut.result.now c.insert.new.self c.self.view_is c.requires.within c.index_mut.ensures.value c.in_ok-insert.ensures.keys).1
