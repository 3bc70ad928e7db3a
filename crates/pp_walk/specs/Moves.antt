-- What each call of a search machine does, between the places where it stands.
use Rattle.std.specs.Prelude.{◌≡◌, ℕ, ◌+◌, ◌<◌, ◌≤◌, ◌⊎◌, Bool, true, false, List, [], ◌∷◌, length, Option, Some, None}
use Rattle.std.specs.List.{slice_get}
use Rattle.pp_sld.specs.Goals.{Program, Config}
use Rattle.pp_sld.specs.Ways as ways
use Rattle.pp_sld.specs.Ways.{Way, Leads, IsDead, finished, left_loose, fails, one, choices, next}
use Rattle.pp_sld.specs.Reach.{Chosen}
use Rattle.pp_walk.specs.declared.event.Event.{Event}
use Rattle.pp_walk.specs.declared.event.Event.TheVariants.{Went, Choice, Failed, Answer, Loose}
use Rattle.pp_walk.specs.declared.next.Next.{Next}
use Rattle.pp_walk.specs.declared.next.Next.TheVariants.{Nothing, Last, At}
use Rattle.pp_walk.specs.Places.{Place}

-- `step` answers this event and leaves the machine at q
abbrev pub Stepped : Program → Place → Event → Place → Type 0
Stepped clauses p Went q = (w : Way) × (next clauses p.here ≡ one w) × Leads w q.here × (q.above ≡ p.above)
Stepped clauses p (Choice n) q = (ws : List Way) × (next clauses p.here ≡ choices ws) × (n ≡ length ws) × (1 ≤ n)
    × (q ≡ p)
Stepped clauses p Failed q = ((next clauses p.here ≡ fails)
    ⊎ ((next clauses p.here ≡ choices []) ⊎ ((w : Way) × (next clauses p.here ≡ one w) × IsDead w))) × (q ≡ p)
Stepped clauses p Answer q = (next clauses p.here ≡ finished) × (q ≡ p)
Stepped clauses p Loose q = (next clauses p.here ≡ left_loose) × (q ≡ p)

-- the step performs a built-in, or it doesn't
abbrev pub step_cost : ways.Next → ℕ
step_cost finished = 0
step_cost left_loose = 0
step_cost fails = 1
step_cost (one w) = 1
step_cost (choices ws) = 0

-- the configuration has alternatives, and one at this place
abbrev pub IsAtChoice : Program → Config → Type 0
IsAtChoice clauses c = (ws : List Way) × (next clauses c ≡ choices ws)

abbrev pub HasChoice : Program → Config → ℕ → Type 0
HasChoice clauses c k = (ws : List Way) × (next clauses c ≡ choices ws) × (k < length ws)

-- the alternative at this place is dead
abbrev pub IsDeadAt : Program → Config → ℕ → Type 0
IsDeadAt clauses c k = (ws : List Way) × (next clauses c ≡ choices ws) × (w : Way) × (slice_get ws k ≡ Some w)
    × IsDead w

-- `choose` takes the alternative at this place, which leads there, or it is dead and the machine stays
abbrev pub Chose : Program → Place → ℕ → Bool → Place → Type 0
Chose clauses p k true q = Chosen clauses p.here k q.here × (q.above ≡ p.here ∷ p.above)
Chose clauses p k false q = IsDeadAt clauses p.here k × (q ≡ p)

-- the next place to try: those from the given one on that come before it are dead
abbrev pub IsNextPlace : Program → Config → ℕ → Option ℕ → Type 0
IsNextPlace clauses c from None = (k : ℕ) → from ≤ k → HasChoice clauses c k → IsDeadAt clauses c k
IsNextPlace clauses c from (Some at) = (from ≤ at) × HasChoice clauses c at
    × ((k : ℕ) → from ≤ k → k < at → IsDeadAt clauses c k)

-- the same without a choice: what is above stays
abbrev pub Committed : Program → Place → ℕ → Bool → Place → Type 0
Committed clauses p k true q = Chosen clauses p.here k q.here × (q.above ≡ p.above)
Committed clauses p k false q = IsDeadAt clauses p.here k × (q ≡ p)

-- the next place, and where it is said to be the last one there is none behind it
abbrev pub IsNext : Program → Config → ℕ → Next → Type 0
IsNext clauses c from Nothing = IsNextPlace clauses c from None
IsNext clauses c from (Last at) = IsNextPlace clauses c from (Some at) × IsNextPlace clauses c (at + 1) None
IsNext clauses c from (At at) = IsNextPlace clauses c from (Some at)

-- `back` returns to the choice taken last, or there is none
abbrev pub WentBack : Place → Bool → Place → Type 0
WentBack p true q = p.above ≡ q.here ∷ q.above
WentBack p false q = (p.above ≡ []) × (q ≡ p)
