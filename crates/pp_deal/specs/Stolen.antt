-- What a steal answers, case by case.
use Rattle.pp_deal.specs.declared.stolen.Stolen.{Stolen}
use Rattle.pp_deal.specs.declared.stolen.Stolen.TheVariants.{Item, Empty, Again}

-- where the answer is Empty, where it is Again, and where it is an item
abbrev pub MatchStolen : {T : Type 0} → Stolen T → Type 0 → Type 0 → (T → Type 0) → Type 0
MatchStolen (Item x) empty again item = item x
MatchStolen Empty empty again item = empty
MatchStolen Again empty again item = again
