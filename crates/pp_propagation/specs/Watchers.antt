-- Watchers: what they noted of a run's changes, which of them leave, and what the others tell.
use Rattle.std.specs.Prelude.{◌≡◌, ◌≢◌, ℕ, ◌-◌, Bool, true, nat_lt, List, ◌++◌, length, map, filter, Option, Some, None}
use Rattle.std.specs.List.{flat_map}
use Rattle.pp_language.specs.Texts.{Text}
use Rattle.pp_language.specs.Answers.{lines}
use Rattle.pp_language.specs.Told.{change_line}
use Rattle.pp_propagation.specs.Histories.{Change}

-- the changes that it noted, and how many more it notes, where that is counted
pub record Watcher : Type 0 where
  pub noted : List Change
  pub room : Option ℕ

-- a watcher whose room is used up is in no list
abbrev pub HasRoom : Watcher → Type 0
HasRoom w = w.room ≢ Some 0

-- there is room for so many changes and one more
abbrev pub has_more_room : ℕ → Option ℕ → Bool
has_more_room n None = true
has_more_room n (Some m) = nat_lt n m

abbrev pub room_after : ℕ → Option ℕ → Option ℕ
room_after n None = None
room_after n (Some m) = Some (m - n)

-- the watcher once it noted these changes
abbrev pub noting : List Change → Watcher → Watcher
noting cs w = record { noted = w.noted ++ cs; room = room_after (length cs) w.room }

-- the watchers after these changes, in their order: one whose room is used up has left
abbrev pub after : List Watcher → List Change → List Watcher
after ws cs = map (noting cs) (filter (λ w. has_more_room (length cs) w.room) ws)

-- a watcher tells a line for each change that it noted
abbrev pub watcher_text : List Text → Watcher → Text
watcher_text names w = lines (map (λ (c : Change). change_line names c.turn c.goal c.given) w.noted)

-- what the watchers tell, in their order
abbrev pub told : List Text → List Watcher → Text
told names ws = flat_map (watcher_text names) ws

-- the first of the watchers noted the one list of changes, and the others the other
abbrev pub NotedInPart : List Change → List Change → List Watcher → List Watcher → Type 0
NotedInPart more fewer old new =
    (first : List Watcher) × (others : List Watcher) × (old ≡ first ++ others)
    × (new ≡ after first more ++ after others fewer)
