-- What is known of all elements of a list of which the last one is taken.
use Rattle.std.proofs.Common.{◌≡◌, List, [], ◌∷◌, ◌++◌, All, subst}
use Rattle.std.proofs.lemmas.List.Elements.{All-nil, All-cons, All-head, All-tail}

pub all-last : {X : Type 0} (P : X → Type 0) (xs : List X) (x : X) → All P (xs ++ x ∷ []) → All P xs × P x
all-last P [] x all = (All-nil P, All-head P x [] all)
all-last P (y ∷ ys) x all =
    let rest = all-last P ys x (All-tail P y (ys ++ x ∷ []) all) in
    (All-cons P y ys (All-head P y (ys ++ x ∷ []) all) rest.0, rest.1)

pub all-popped : {X : Type 0} (P : X → Type 0) (old new : List X) (x : X) → old ≡ new ++ x ∷ [] → All P old → All P new × P x
all-popped P old new x e all = all-last P new x (subst (λ l. All P l) e all)

pub all-front : {X : Type 0} (P : X → Type 0) (old new : List X) (x : X) → old ≡ x ∷ new → All P old → All P new × P x
all-front P old new x e all =
    let has : All P (x ∷ new) = subst (λ l. All P l) e all in
    (All-tail P x new has, All-head P x new has)
