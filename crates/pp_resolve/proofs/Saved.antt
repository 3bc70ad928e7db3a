-- States that are kept, and what is added behind them.
use Rattle.std.proofs.Common.{◌≡◌, ℕ, suc, ◌≤◌, List, [], ◌∷◌, ◌++◌, length, take, reverse, refl, ap, sym, ◌∙◌, subst, arith, length-append, append-nil}
use Rattle.std.proofs.lemmas.List.{take_all, take-append-le}
use Rattle.pp_algebra.specs.Rows.{Row}
use Rattle.pp_unify.specs.States.{IsLonger}
use Rattle.pp_resolve.specs.declared.history.Rest.{Rest}
use Rattle.pp_resolve.specs.declared.history.Choice.{Choice}
use Rattle.pp_resolve.specs.declared.history.Front.{Front}
use Rattle.pp_resolve.specs.declared.history.History.{History}
use Rattle.pp_resolve.specs.declared.suspended.Suspension.{Suspension}
use Rattle.pp_resolve.specs.Kept.{Kept, kept_of, cut}
use Rattle.pp_resolve.specs.Frames.{Frame, frames, frames_of, IsThere, AreThere, IsFit}

-- each list has more at its end
pub record IsMore (k m : Kept) : Type 0 where
  pub states : (more : List Row) × (m.states ≡ k.states ++ more)
  pub links : (more : List Rest) × (m.links ≡ k.links ++ more)
  pub suspended : (more : List Suspension) × (m.suspended ≡ k.suspended ++ more)
  pub done : (more : List ℕ) × (m.done ≡ k.done ++ more)

abbrev frame : Kept → Front → Frame
frame k f = record { kept = k; front = f }

take_same : {A : Type 0} (n : ℕ) (xs ys more : List A) → ys ≡ xs ++ more → n ≤ length xs → take n ys ≡ take n xs
take_same n xs ys more e w = ap (take n) e ∙ take-append-le n xs more w

cut_same : (c : Choice) (k m : Kept) → IsThere k c → IsMore k m → cut c m ≡ cut c k
cut_same c k m t h = rw (take_same (suc c.mark) k.states m.states h.states.0 h.states.1 (omega (arith, t.states)), take_same c.links k.links m.links h.links.0 h.links.1 t.links, take_same c.suspended k.suspended m.suspended h.suspended.0 h.suspended.1 t.suspended, take_same c.done k.done m.done h.done.0 h.done.1 t.done) refl

longer : {A : Type 0} (n : ℕ) (xs ys more : List A) → ys ≡ xs ++ more → n ≤ length xs → n ≤ length ys
longer n xs ys more e w = let s = ap length e ∙ length-append xs more in omega (arith, s, w)

there_still : (c : Choice) (k m : Kept) → IsThere k c → IsMore k m → IsThere m c
there_still c k m t h = record {
  states = let s = longer (suc c.mark) k.states m.states h.states.0 h.states.1 (omega (arith, t.states)) in omega (arith, s);
  links = longer c.links k.links m.links h.links.0 h.links.1 t.links;
  suspended = longer c.suspended k.suspended m.suspended h.suspended.0 h.suspended.1 t.suspended;
  done = longer c.done k.done m.done h.done.0 h.done.1 t.done;
}

-- what comes behind changes no kept state
pub frames_still : (k m : Kept) (cs : List Choice) → AreThere k cs → IsMore k m → (frames m cs ≡ frames k cs) × AreThere m cs
frames_still k m [] t h = (refl, tt)
frames_still k m (c ∷ cs) t h =
    let e = cut_same c k m t.0 h in (
      ap (λ x. frame x c.front ∷ frames x cs) e,
      (there_still c k m t.0 h, subst (λ x. AreThere x cs) (sym e) t.1),
    )

none_more : {A : Type 0} (xs ys : List A) → ys ≡ xs → (more : List A) × (ys ≡ xs ++ more)
none_more xs ys e = ([], e ∙ sym (append-nil xs))

-- the same of two histories that have taken the same choices
pub still_fit : (h g : History) → IsMore (kept_of h) (kept_of g) → g.choices.items ≡ h.choices.items → IsFit h → (frames_of g ≡ frames_of h) × AreThere (kept_of g) (reverse g.choices.items)
still_fit h g m e f =
    let s = frames_still (kept_of h) (kept_of g) (reverse h.choices.items) f.there m in
    (ap (λ cs. frames (kept_of g) (reverse cs)) e ∙ s.0, subst (λ cs. AreThere (kept_of g) (reverse cs)) (sym e) s.1)

-- the history with later states
pub history_longer : (h : History) (rs : List Row) → IsLonger h.bindings rs → IsFit h → (frames_of (record h { bindings = rs }) ≡ frames_of h) × IsFit (record h { bindings = rs })
history_longer h rs k f =
    let s = still_fit h (record h { bindings = rs }) (record { states = k; links = none_more h.links.items h.links.items refl; suspended = none_more h.suspended.goals.items h.suspended.goals.items refl; done = none_more h.suspended.done.items h.suspended.done.items refl }) refl f in
    (s.0, record { there = s.1; ordered = f.ordered })

pub linked : (h g : History) (l : Rest) → g.bindings ≡ h.bindings → g.links.items ≡ h.links.items ++ l ∷ [] → g.suspended ≡ h.suspended → IsMore (kept_of h) (kept_of g)
linked h g l b e s = record { states = none_more h.bindings g.bindings b; links = (l ∷ [], e); suspended = none_more h.suspended.goals.items g.suspended.goals.items (ap (λ x. x.goals.items) s); done = none_more h.suspended.done.items g.suspended.done.items (ap (λ x. x.done.items) s) }

pub suspended_behind : (h g : History) (t : Suspension) → g.bindings ≡ h.bindings → g.links.items ≡ h.links.items → g.suspended.goals.items ≡ h.suspended.goals.items ++ t ∷ [] → g.suspended.done.items ≡ h.suspended.done.items → IsMore (kept_of h) (kept_of g)
suspended_behind h g t b l e d = record { states = none_more h.bindings g.bindings b; links = none_more h.links.items g.links.items l; suspended = (t ∷ [], e); done = none_more h.suspended.done.items g.suspended.done.items d }

pub done_behind : (h g : History) (i : ℕ) → g.bindings ≡ h.bindings → g.links.items ≡ h.links.items → g.suspended.goals.items ≡ h.suspended.goals.items → g.suspended.done.items ≡ h.suspended.done.items ++ i ∷ [] → IsMore (kept_of h) (kept_of g)
done_behind h g i b l e d = record { states = none_more h.bindings g.bindings b; links = none_more h.links.items g.links.items l; suspended = none_more h.suspended.goals.items g.suspended.goals.items e; done = (i ∷ [], d) }

pub taken_back : (old mid new : List Row) (mark : ℕ) → suc mark ≡ length old → IsLonger old mid → new ≡ take (suc mark) mid → new ≡ old
taken_back old mid new mark m k e = e ∙ ap (take (suc mark)) k.1 ∙ take-append-le (suc mark) old k.0 (omega (arith, m)) ∙ take_all (suc mark) old (omega (arith, m))
