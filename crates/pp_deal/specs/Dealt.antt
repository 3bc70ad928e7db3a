-- Where the items went that a hand offered, and the rule of its deque.
use Rattle.std.specs.Prelude.{◌≡◌, ℕ, ◌+◌, Bool, true, false, cond, List, [], ◌∷◌, ◌++◌}
use mathlib.Core.Option.{some}
use lib.ListN.{get_elem?}
use Rattle.pp_deal.specs.declared.tally.Tally.{Tally}

-- the weights of the elements, added up
abbrev pub weigh : {X : Type 0} → (X → ℕ) → List X → ℕ
weigh weight [] = 0
weigh weight (x ∷ xs) = weight x + weigh weight xs

module _ {T : Type 0} where
  -- the same items, each as often: whatever the items weigh, both lists weigh the same
  abbrev pub AsOften : List T → List T → Type 0
  AsOften xs ys = (weight : T → ℕ) → weigh weight xs ≡ weigh weight ys

  -- what was taken is a beginning of what was offered, each item as often, and what is left is the rest
  abbrev pub AreAccounted : List T → List T → List T → Type 0
  AreAccounted offered taken left = (gone : List T) × (offered ≡ gone ++ left) × AsOften taken gone

  -- nothing is left: what others took is the rest of what was offered
  abbrev pub AllGone : List T → List T → Type 0
  AllGone offered taken = (others : List T) × AsOften (taken ++ others) offered

  abbrev pub tally : Bool → Bool → ℕ → List T → List T → Tally T
  tally leads is_out peeks offered taken = record { leads = leads; is_out = is_out; peeks = peeks; offered = offered; taken = taken }

  -- a peek's that came back
  abbrev pub idle : Tally T
  idle = tally false false 0 [] []

  abbrev pub outs : List (Tally T) → ℕ
  outs views = weigh (λ v. cond v.is_out 1 0) views

  -- the hand's view has all that was offered and counts the peeks that are out; a peek that is back has nothing
  pub record Fits (hand : ℕ) (all : List T) (views : List (Tally T)) (place : ℕ) (v : Tally T) : Type 0 where
    pub leads : v.leads ≡ true → (place ≡ hand) × (v.offered ≡ all) × (outs views ≡ v.peeks)
    pub rests : v.leads ≡ false → v.is_out ≡ false → v.taken ≡ []

  -- the rule: what is gone and then the items in the deque are what was offered, and what is gone is what all views have taken, each item as often
  pub record Dealt (items : List T) (views : List (Tally T)) : Type 0 where
    pub hand : ℕ
    pub offered : List T
    pub gone : List T
    pub all : offered ≡ gone ++ items
    pub counts : (weight : T → ℕ) → weigh (λ v. weigh weight v.taken) views ≡ weigh weight gone
    pub each : (place : ℕ) (v : Tally T) → get_elem? views place ≡ some v → Fits hand offered views place v
