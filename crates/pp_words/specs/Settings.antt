-- What the crate's settings stand for, and what a reading of words gives.
use Rattle.std.specs.Prelude.{◌≡◌, Option, Some, None, Result, Ok, Err}
use Rattle.pp_language.specs.Commands.{Setting as Named, worker_count, look_ahead, search_depth, turn_count}
use Rattle.pp_words.specs.declared.setting.Setting.{Setting}
use Rattle.pp_words.specs.declared.setting.Setting.TheVariants.{Workers, Ahead, Depth, Turns}
use Rattle.pp_words.specs.declared.words.WordsError.{WordsError}
use Rattle.pp_words.specs.declared.words.WordsError.TheVariants.{Usage, Memory}

abbrev pub setting_of : Setting → Named
setting_of Workers = worker_count
setting_of Ahead = look_ahead
setting_of Depth = search_depth
setting_of Turns = turn_count

-- a reading gives what is there, and usage where nothing is, if memory suffices
abbrev pub Gives : {A B : Type 0} → (A → B) → Result A WordsError → Option B → Type 0
Gives meaning (Ok a) o = o ≡ Some (meaning a)
Gives meaning (Err Usage) o = o ≡ None
Gives meaning (Err Memory) o = Unit {0}
