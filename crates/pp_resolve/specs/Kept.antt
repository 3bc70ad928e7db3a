-- What a machine keeps: its states, the links of goals, the goals that are suspended, and the places of those that were
-- done since.
use Rattle.std.specs.Prelude.{ℕ, suc, List, take}
use Rattle.pp_algebra.specs.Rows.{Row}
use Rattle.pp_resolve.specs.declared.history.Rest.{Rest}
use Rattle.pp_resolve.specs.declared.history.Choice.{Choice}
use Rattle.pp_resolve.specs.declared.history.History.{History}
use Rattle.pp_resolve.specs.declared.suspended.Suspension.{Suspension}

pub record Kept : Type 0 where
  pub states : List Row
  pub links : List Rest
  pub suspended : List Suspension
  pub done : List ℕ

abbrev pub kept_of : History → Kept
kept_of h = record {
  states = h.bindings;
  links = h.links.items;
  suspended = h.suspended.goals.items;
  done = h.suspended.done.items;
}

-- what was there when the choice was taken
abbrev pub cut : Choice → Kept → Kept
cut c k = record {
  states = take (suc c.mark) k.states;
  links = take c.links k.links;
  suspended = take c.suspended k.suspended;
  done = take c.done k.done;
}
