-- What a source or a sink in memory is seen as whose calls fail by their numbers.
use Rattle.std.specs.Prelude.{◌≡◌, ℕ, List, Contains}
use Rattle.pp_io.specs.Ends.{next_count}

-- the numbers of the calls that fail, from 1; how many calls were made; how many of them failed
pub record CallCounts : Type 0 where
  pub failing : List ℕ
  pub made : ℕ
  pub faults : ℕ

-- the next call is one of those that fail
abbrev pub IsNextFailing : CallCounts → Type 0
IsNextFailing calls = Contains calls.failing (next_count calls.made)

-- one more call was made
abbrev pub after_call : CallCounts → CallCounts
after_call calls = record calls { made = next_count calls.made }

-- one more call was made, and failed
abbrev pub after_fault : CallCounts → CallCounts
after_fault calls = record calls { made = next_count calls.made; faults = next_count calls.faults }

-- the bytes still to come (of a source) or taken so far (of a sink), the most that a call moves, and the calls
pub record MemoryEnd : Type 0 where
  pub bytes : List ℕ
  pub piece : ℕ
  pub calls : CallCounts

-- a call failed, and moved nothing
abbrev pub FailedOnly : MemoryEnd → MemoryEnd → Type 0
FailedOnly before after = after ≡ record before { calls = after_fault before.calls }

-- a call left these bytes
abbrev pub Left : MemoryEnd → MemoryEnd → List ℕ → Type 0
Left before after bytes = after ≡ record before { bytes = bytes; calls = after_call before.calls }
