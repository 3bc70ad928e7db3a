-- What a watcher is told, and what it answers.
use Rattle.std.specs.Prelude.{ℕ, zero, suc, List, Option, Some, None}
use Rattle.std.specs.Coded.{Coded, code_by, coded×, coded_list, coded_option, coded_ℕ}
use Rattle.std.proofs.Common.{refl}
use Rattle.pp_algebra.specs.Rows.{Row}
use Rattle.pp_propagation.specs.Histories.{Change}
use Rattle.pp_propagation.specs.Watchers.{Watcher}
use Rattle.pp_row.specs.Codes.{row_code}
use Rattle.pp_watch.specs.declared.change.Change as told
use Rattle.pp_watch.specs.declared.keep.Keep.{Keep}
use Rattle.pp_watch.specs.declared.keep.Keep.TheVariants.{Stay, Leave}

abbrev pub change_by : told.Change → Change
change_by c = record { turn = c.turn; goal = c.goal; given = c.given; store = c.store }

-- it leaves where it has no more room
abbrev pub keep_in : Option ℕ → Keep
keep_in None = Stay
keep_in (Some zero) = Leave
keep_in (Some (suc n)) = Stay

abbrev pub keep_by : Watcher → Keep
keep_by w = keep_in w.room

abbrev change_code : Coded Change
change_code = code_by (ℕ × (ℕ × (Row × Row))) (coded× coded_ℕ (coded× coded_ℕ (coded× row_code row_code)))
    (λ c. (c.turn, (c.goal, (c.given, c.store))))
    (λ p. record { turn = p.0; goal = p.1.0; given = p.1.1.0; store = p.1.1.1 }) (λ _. refl)

abbrev pub watcher_code : Coded Watcher
watcher_code = code_by (List Change × Option ℕ) (coded× (coded_list change_code) (coded_option coded_ℕ))
    (λ w. (w.noted, w.room)) (λ p. record { noted = p.0; room = p.1 }) (λ _. refl)
