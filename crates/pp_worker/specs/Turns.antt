-- What a worker's turn comes to, and its work.
use Rattle.std.specs.Prelude.{◌≡◌, ℕ, zero, suc, true, List, [], ◌∷◌, ◌++◌}
use Rattle.pp_space.specs.declared.space.Space as space
use Rattle.pp_space.specs.declared.lattice.Lattice as lattice
use Rattle.pp_core.specs.declared.accepted.Accepted.{Accepted}
use Rattle.pp_core.specs.declared.accepted.Accepted.TheVariants as answers
use Rattle.pp_core.specs.declared.report.ReportOf.{ReportOf}
use Rattle.pp_core.specs.declared.entry.Act.TheVariants.{Looked}
use Rattle.pp_core.specs.declared.entry.EntryOf.{EntryOf}
use Rattle.pp_deal.specs.Hands.{offered, taken}
use Rattle.pp_stop.specs.Seats.{saw_settled}
use Rattle.pp_cell.specs.declared.cell.Pass.{Pass}
use Rattle.pp_cell.specs.Entries.{entry, act_of}
use Rattle.pp_cell.specs.Passes.{is_over, own_entries, pass_number}
use Rattle.pp_worker.specs.Peeks.{StoleNothing, WasTaken}
use Rattle.pp_worker.specs.declared.desk.Desk.{Desk}
use Rattle.pp_worker.specs.declared.explorer.Explorer as explorer
use Rattle.pp_worker.specs.declared.turned.Turned.{Turned}
use Rattle.pp_worker.specs.declared.turned.Turned.TheVariants.{Worked, Stopped, Idle}

-- where the turn worked, where it was stopped, and where it was idle
abbrev pub MatchTurned : Turned → Type 0 → Type 0 → Type 0 → Type 0
MatchTurned Worked worked stopped idle = worked
MatchTurned Stopped worked stopped idle = stopped
MatchTurned Idle worked stopped idle = idle

-- what is offered of a rest, by how its report was answered: all of it where the report counts and the search goes on
abbrev pub offers_if : {T : Type 0} → Accepted → List T → List T
offers_if answers.Taken rest = rest
offers_if answers.Settled rest = []
offers_if answers.Stale rest = []

module _ {T V : Type 0} where
  -- what is written behind a report, by how it was answered: a look where the search is settled
  abbrev pub looks_if : ℕ → Accepted → List (EntryOf T V)
  looks_if number answers.Taken = []
  looks_if number answers.Settled = entry number Looked ∷ []
  looks_if number answers.Stale = []

  -- what a turn writes whose report was answered so
  abbrev pub writes : ℕ → Accepted → ReportOf T V → List (EntryOf T V)
  writes number accepted report = entry number (act_of accepted report) ∷ looks_if number accepted

  -- what turns write, one after another
  abbrev pub writes_all : ℕ → List (Accepted × ReportOf T V) → List (EntryOf T V)
  writes_all number [] = []
  writes_all number (t ∷ ts) = writes number t.0 t.1 ++ writes_all number ts

  -- so many looks
  abbrev pub looks : ℕ → ℕ → List (EntryOf T V)
  looks number zero = []
  looks number (suc n) = entry number Looked ∷ looks number n

module _ {S T V O : Type 0} {sp : space.Ghosts S T V O} {la : lattice.Ghosts S V O} where
  -- it wrote what turns write, and nothing else
  pub record HasTurned (p q : Pass S T V O sp la) : Type 0 where
    pub turns : List (Accepted × ReportOf T V)
    pub own : own_entries q ≡ own_entries p ++ writes_all (pass_number p) turns

  -- it wrote what turns write, and then looked, once or more
  pub record HasWorked (p q : Pass S T V O sp la) : Type 0 where
    pub turns : List (Accepted × ReportOf T V)
    pub more : ℕ
    pub own : own_entries q ≡ own_entries p ++ writes_all (pass_number p) turns ++ looks (pass_number p) (suc more)

module _ {S W T V O : Type 0} {ex : explorer.Ghosts S W T V O} {sp : space.Ghosts S T V O} {la : lattice.Ghosts S V O} where
  -- one report was made, of the task that was taken or stolen, and its whole rest was offered where the report was taken. A look behind it that shows the end has raised the settled bit
  pub record HasReported (d e : Desk S W T V O ex sp la) : Type 0 where
    pub report : ReportOf T V
    pub accepted : Accepted
    pub task : WasTaken report.task d.hand e.hand d.peeks.items e.peeks.items
    pub own : own_entries e.pass ≡ own_entries d.pass ++ writes (pass_number d.pass) accepted report
    pub offers : offered e.hand ≡ offered d.hand ++ offers_if accepted report.rest
    pub settled : accepted ≡ answers.Settled → is_over e.pass ≡ true → saw_settled e.seat ≡ true

  -- nothing was taken, stolen, offered or written
  pub record IsUntouched (d e : Desk S W T V O ex sp la) : Type 0 where
    pub pass : e.pass ≡ d.pass
    pub offered : offered e.hand ≡ offered d.hand
    pub taken : taken e.hand ≡ taken d.hand
    pub stolen : StoleNothing d.peeks.items e.peeks.items
