-- The last seat is taken from those of a new lock.
use Rattle.std.proofs.Common.{◌≡◌, ℕ, List, [], ◌∷◌, ◌++◌, length, ◌∙◌, subst, Option, Some, None, IfSome, option_to_list}
use Rattle.pp_turn.proofs.Lists.{ByPlace, by_place_init, append_nil}

pub popped : {A : Type 0} (P : ℕ → A → Type 0) (old new : List A) (r : Option A) → old ≡ new ++ option_to_list r → ByPlace P old → ByPlace P new × IfSome r (λ s. P (length new) s)
popped P old new None e h = (subst (λ (l : List _). ByPlace P l) (e ∙ append_nil new) h, tt)
popped P old new (Some x) e h = by_place_init P new x (subst (λ (l : List _). ByPlace P l) e h)
