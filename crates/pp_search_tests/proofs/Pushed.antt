-- What holds of all before a push and of the pushed value holds of all after it, also where there was no memory for it.
use Rattle.std.specs.Prelude.{Bool, true, false, List, [], ◌∷◌, ◌++◌, All, if◌then◌else◌}
use Rattle.std.proofs.lemmas.List.Elements.{All-push}

pub all_pushed : {X : Type 0} (P : X → Type 0) (b : Bool) (xs : List X) (x : X) → All P xs → P x → All P (if b then (xs ++ x ∷ []) else xs)
all_pushed P true xs x h p = All-push P xs x h p
all_pushed P false xs x h p = h
