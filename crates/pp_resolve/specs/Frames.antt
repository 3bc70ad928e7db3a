-- The states that a machine can go back to, the last one first.
use Rattle.std.specs.Prelude.{◌≡◌, ◌<◌, ◌≤◌, List, [], ◌∷◌, length, reverse, Option, Some, None}
use Rattle.pp_resolve.specs.declared.history.Front.{Front}
use Rattle.pp_resolve.specs.declared.history.Choice.{Choice}
use Rattle.pp_resolve.specs.declared.history.History.{History}
use Rattle.pp_resolve.specs.Suspensions.{AreOrdered}
use Rattle.pp_resolve.specs.Kept.{Kept, kept_of, cut}

pub record Frame : Type 0 where
  pub kept : Kept
  pub front : Front

abbrev pub frames : Kept → List Choice → List Frame
frames k [] = []
frames k (c ∷ cs) = record { kept = cut c k; front = c.front } ∷ frames (cut c k) cs

-- what a choice keeps is there
pub record IsThere (k : Kept) (c : Choice) : Type 0 where
  pub states : c.mark < length k.states
  pub links : c.links ≤ length k.links
  pub suspended : c.suspended ≤ length k.suspended
  pub done : c.done ≤ length k.done

abbrev pub AreThere : Kept → List Choice → Type 0
AreThere k [] = Unit {0}
AreThere k (c ∷ cs) = IsThere k c × AreThere (cut c k) cs

abbrev pub frames_of : History → List Frame
frames_of h = frames (kept_of h) (reverse h.choices.items)

pub record IsFit (h : History) : Type 0 where
  pub there : AreThere (kept_of h) (reverse h.choices.items)
  pub ordered : AreOrdered h.suspended

-- the present state
abbrev pub frame_of : History → Front → Frame
frame_of h front = record { kept = kept_of h; front = front }

-- the last state is the present one again, or there was none
abbrev pub IsTaken : History → History → Option Front → Type 0
IsTaken old new None = (frames_of old ≡ []) × (frames_of new ≡ []) × (kept_of new ≡ kept_of old)
IsTaken old new (Some front) = frames_of old ≡ frame_of new front ∷ frames_of new
