-- What a call does to the bytes that a source has left, to those that a sink has taken, and to a count of faults.
use Rattle.std.specs.Prelude.{◌≡◌, ◌↔◌, ℕ, ◌+◌, ◌-◌, ◌^◌, ◌<◌, ◌≤◌, min, List, [], ◌++◌, length, Option, None, Some, Result, MatchResult, ⊤}

-- a count after one more; it stands still at the last value of a u64
abbrev pub next_count : ℕ → ℕ
next_count count = min (count + 1) (2 ^ 64 - 1)

-- a count rose: it is greater, or stands at its last value
abbrev pub Rose : ℕ → ℕ → Type 0
Rose before now = next_count before ≤ now

-- where the bytes left are told, these were the first of them, and the rest is told afterwards
abbrev pub Gave : Option (List ℕ) → Option (List ℕ) → List ℕ → Type 0
Gave None after bytes = ⊤
Gave (Some before) None bytes = ⊥
Gave (Some before) (Some after) bytes = before ≡ bytes ++ after

-- where the bytes left are told, these were all of them, and none is left
abbrev pub GaveAll : Option (List ℕ) → Option (List ℕ) → List ℕ → Type 0
GaveAll None after bytes = ⊤
GaveAll (Some before) after bytes = (bytes ≡ before) × (after ≡ Some [])

-- a number of bytes read is 0 exactly where none was left, if that is told
abbrev pub ShowsEnd : Option (List ℕ) → ℕ → Type 0
ShowsEnd None n = ⊤
ShowsEnd (Some before) n = (n ≡ 0) ↔ (before ≡ [])

-- where the bytes taken are told afterwards, they were told before, and these were appended
abbrev pub Took : Option (List ℕ) → Option (List ℕ) → List ℕ → Type 0
Took before None bytes = ⊤
Took None (Some after) bytes = ⊥
Took (Some before) (Some after) bytes = after ≡ before ++ bytes

-- a write failed, or took nothing of a piece that was not empty
abbrev pub IsRefused : {E : Type 0} → Result ℕ E → List ℕ → Type 0
IsRefused answer piece = MatchResult answer (λ n. (n ≡ 0) × (0 < length piece)) (λ _. ⊤)
