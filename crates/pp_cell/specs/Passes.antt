-- What a pass is seen as: its cell, the search's space and root, its number, and the journal that it last saw.
use Rattle.std.specs.Prelude.{◌≡◌, ◌≢◌, ℕ, Bool, List, [], ◌∷◌, ◌++◌, length, slice_get, Some}
use Rattle.pp_space.specs.declared.space.Space as space
use Rattle.pp_space.specs.declared.lattice.Lattice as lattice
use Rattle.pp_core.specs.Runs.{State, opening, is_live, is_done, answer_if}
use Rattle.pp_core.specs.Worths.{IsFit}
use Rattle.pp_core.specs.Journals.{replay}
use Rattle.pp_core.specs.declared.accepted.Accepted.{Accepted}
use Rattle.pp_core.specs.declared.report.ReportOf.{ReportOf}
use Rattle.pp_core.specs.declared.entry.Act.{Act}
use Rattle.pp_core.specs.declared.entry.EntryOf.{EntryOf}
use Rattle.pp_turn.specs.Locks.{seat_count}
use Rattle.pp_turn.specs.Logs.{Each, Later}
use Rattle.pp_turn.specs.Seats.{IsSeatOf, seat_turn, seen}
use Rattle.pp_cell.specs.declared.cell.Cell.{Cell}
use Rattle.pp_cell.specs.declared.cell.Pass.{Pass}
use Rattle.pp_cell.specs.Entries.{entry, act_of, entries_of}

module _ {S T V O : Type 0} {sp : space.Ghosts S T V O} {la : lattice.Ghosts S V O} where
  abbrev pub pass_space : Pass S T V O sp la → S
  pass_space p = p.space.now

  abbrev pub pass_root : Pass S T V O sp la → T
  pass_root p = p.root

  abbrev pub pass_number : Pass S T V O sp la → ℕ
  pass_number p = p.number

  -- the journal that it last saw
  abbrev pub pass_journal : Pass S T V O sp la → List (EntryOf T V)
  pass_journal p = seen p.seat

  -- the list of its own entries
  abbrev pub own_entries : Pass S T V O sp la → List (EntryOf T V)
  own_entries p = entries_of (pass_number p) (pass_journal p)

  -- the state of the search after these entries
  abbrev pub state_after : Pass S T V O sp la → List (EntryOf T V) → State T V
  state_after p es = replay sp.are_same (la.joined (pass_space p)) es (opening (la.bottom (pass_space p)) (pass_root p))

  -- the state that it last saw
  abbrev pub pass_state : Pass S T V O sp la → State T V
  pass_state p = state_after p (pass_journal p)

  abbrev pub pass_value : Pass S T V O sp la → V
  pass_value p = (pass_state p).value

  abbrev pub IsPassOf : Cell S T V O sp la → Pass S T V O sp la → Type 0
  IsPassOf c p = IsSeatOf c.turn p.seat

  -- the same cell, space, root and number
  pub record SamePass (p q : Pass S T V O sp la) : Type 0 where
    pub cell : seat_turn q.seat ≡ seat_turn p.seat
    pub space : pass_space q ≡ pass_space p
    pub root : pass_root q ≡ pass_root p
    pub number : pass_number q ≡ pass_number p

  abbrev pub IsFitFor : Pass S T V O sp la → ReportOf T V → Type 0
  IsFitFor p r = IsFit (sp.worth (pass_space p)) (la.joined (pass_space p)) (la.fits (pass_space p)) r

  -- it is below the value that the pass last saw
  abbrev pub IsBelow : Pass S T V O sp la → V → Type 0
  IsBelow p v = la.joined (pass_space p) v (pass_value p) ≡ pass_value p

  -- what it saw first, then entries of others
  abbrev pub SawMore : Pass S T V O sp la → Pass S T V O sp la → Type 0
  SawMore p q = Later (λ e. e.seat) (pass_number p) (pass_journal p) (pass_journal q)

  -- what it saw first, then entries of others, and last one of its own
  pub record Enters (p : Pass S T V O sp la) (act : Act T V) (q : Pass S T V O sp la) : Type 0 where
    pub others : List (EntryOf T V)
    pub journal : pass_journal q ≡ (pass_journal p ++ others) ++ entry (pass_number p) act ∷ []
    pub foreign : Each (λ e. e.seat ≢ pass_number p) others
    pub own : own_entries q ≡ own_entries p ++ entry (pass_number p) act ∷ []

  -- the report was answered as the core answers it, after the entries that stand before its own
  pub record Answers (p : Pass S T V O sp la) (r : ReportOf T V) (accepted : Accepted) (q : Pass S T V O sp la) : Type 0 where
    pub before : List (EntryOf T V)
    pub journal : pass_journal q ≡ before ++ entry (pass_number p) (act_of accepted r) ∷ []
    pub answer : accepted ≡ answer_if (is_live sp.are_same r.task (state_after p before).live) (is_done (la.is_settled (pass_space p)) (pass_state q))

  -- whether the search is over, as far as the pass saw
  abbrev pub is_over : Pass S T V O sp la → Bool
  is_over p = is_done (la.is_settled (pass_space p)) (pass_state p)

  -- a cell's passes, in the order of their numbers
  abbrev pub ArePasses : Cell S T V O sp la → List (Pass S T V O sp la) → Type 0
  ArePasses c ps = (length ps ≡ seat_count c.turn) × ((i : ℕ) (p : Pass S T V O sp la) → slice_get ps i ≡ Some p → IsPassOf c p × (pass_number p ≡ i))
