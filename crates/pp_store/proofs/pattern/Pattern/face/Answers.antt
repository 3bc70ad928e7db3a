use Rattle.std.proofs.Common.{◌<◌, length, sym, subst}
use Rattle.pp_store.proofs.pattern.Pattern.face.Goals as goal

pub face-requires-clause-below : goal.face-requires-clause-below
face-requires-clause-below c = λ v i. subst (λ cs. v < length cs) (sym c.deref.ensures.value) (c.requires.below v i)
