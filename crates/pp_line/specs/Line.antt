-- The words behind a command's name, as clap reads them.
use Rattle.std.specs.Prelude.{[], ◌∷◌, Some, true, codes}
use Rattle.clap.specs.Words.{App, Rule, Text, new_app, new_rule, with_rule}
use Rattle.clap.specs.Simple.{on_top}
use Rattle.clap.specs.declared.builder.action.ArgAction.TheVariants.{Append}

abbrev pub option_rule : Text → Rule
option_rule name = record (new_rule name) { long = Some name; action = Some Append }

abbrev pub trace_rule : Rule
trace_rule = record (option_rule (codes "trace")) { range = Some (record { start_inclusive = 0; end_inclusive = 0 }); missing = [] ∷ [] }

abbrev pub number_rule : Rule
number_rule = record (new_rule (codes "number")) { action = Some Append }

abbrev pub line : App
line =
    with_rule (with_rule (with_rule (with_rule (with_rule (with_rule (on_top (λ s. record s { disable_help_flag = true }) (new_app (codes "propia")))
    (option_rule (codes "workers"))) (option_rule (codes "ahead"))) (option_rule (codes "depth"))) (option_rule (codes "turns"))) trace_rule) number_rule
