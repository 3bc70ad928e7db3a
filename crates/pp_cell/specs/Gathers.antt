-- What a whole journal has to do with the journals that passes saw.
use Rattle.std.specs.Prelude.{◌≡◌, ℕ, ◌<◌, List, ◌++◌, slice_get, Some}

module _ {L : Type 0} where
  abbrev pub Begins : List L → List L → Type 0
  Begins xs log = (more : List L) × (log ≡ xs ++ more)

  -- the first of these logs, as many as are said, begin the list, which is itself one of them
  pub record Gathers (logs : List (List L)) (many : ℕ) (log : List L) : Type 0 where
    pub all : (i : ℕ) (xs : List L) → slice_get logs i ≡ Some xs → i < many → Begins xs log
    pub one : (i : ℕ) × (slice_get logs i ≡ Some log)
