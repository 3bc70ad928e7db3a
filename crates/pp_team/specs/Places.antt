-- Where a worker sits: at which search, cell and stop word.
use Rattle.std.specs.Prelude.{◌≡◌}
use Rattle.pp_space.specs.declared.space.Space as space
use Rattle.pp_space.specs.declared.lattice.Lattice as lattice
use Rattle.pp_stop.specs.declared.seat.Stop.{Stop}
use Rattle.pp_stop.specs.declared.seat.StopSeat.{StopSeat}
use Rattle.pp_stop.specs.Seats.{IsSeatOf}
use Rattle.pp_cell.specs.declared.cell.Cell.{Cell}
use Rattle.pp_cell.specs.declared.cell.Pass.{Pass}
use Rattle.pp_cell.specs.Passes.{IsPassOf, pass_space}

module _ {S T V O : Type 0} {sp : space.Ghosts S T V O} {la : lattice.Ghosts S V O} where
  -- a pass of this cell, for a search in this space, and a seat at this stop word
  abbrev pub SitsAt : S → Cell S T V O sp la → Stop → Pass S T V O sp la → StopSeat → Type 0
  SitsAt space cell stop p s = (space ≡ pass_space p) × IsPassOf cell p × IsSeatOf stop s
