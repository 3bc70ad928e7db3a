use Rattle.std.proofs.Common.{◌<◌, sym, subst}
use Rattle.pp_store.proofs.Stored.{store_long}
use Rattle.pp_store.proofs.store.Store.face.Goals as goal

pub face-requires-clause-below : goal.face-requires-clause-below
face-requires-clause-below c = λ v i. subst (λ m. v < m) (sym (store_long c.args.goals.now c.args.self.now c.self.inside.pattern c.self.view_is c.requires.of_query)) (c.at.ensures.formed.below v i)
