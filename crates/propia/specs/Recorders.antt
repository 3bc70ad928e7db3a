-- Who watches a run of the program, and what is written of it.
use Rattle.std.specs.Prelude.{Bool, cond, List, [], ◌∷◌, Option, None, codes}
use Rattle.std.specs.List.{list_any}
use Rattle.pp_algebra.specs.Texts.{same_text}
use Rattle.pp_language.specs.declared.status.Status.{Status}
use Rattle.pp_language.specs.Texts.{Text}
use Rattle.pp_language.specs.Commands.{AreWordsOf}
use Rattle.pp_propagation.specs.Watchers.{Watcher}
use Rattle.pp_propagation.specs.Replies.{IsReply}
use Rattle.pp_run.specs.Endings.{Replied}

abbrev pub has_trace : List Text → Bool
has_trace words = list_any (λ w. same_text w (codes "--trace")) words

-- one that noted nothing yet, where `--trace` is among the words
abbrev pub recorders : List Text → List Watcher
recorders words = cond (has_trace words) (record { noted = []; room = None } ∷ []) []

-- what was written is the reply to the words and to the text
abbrev pub IsServed : List Text → Text → Option Text → Option Text → Status → Type 0
IsServed words text before after s = (new : List Watcher)
    × Replied (IsReply AreWordsOf words text (recorders words) new) before after s
