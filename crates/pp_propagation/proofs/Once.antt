-- A turn, and a run from a state, are determined by the state.
use Rattle.std.proofs.Common.{◌≡◌, ℕ, zero, suc, ◌+◌, List, [], ◌∷◌, Option, Some, None, ap, sym, ◌∙◌, subst, arith}
use Rattle.pp_sld.specs.Goals.{Program}
use Rattle.pp_sld.specs.Verdicts.{Verdict, HasVerdict}
use Rattle.pp_sld.proofs.OneVerdict.{verdict_once}
use Rattle.pp_propagation.specs.Stores.{Asked, face}
use Rattle.pp_propagation.specs.Turns.{Commit, State, goal_at, committed, turned, Turn}
use Rattle.pp_propagation.specs.Runs.{Run, failed, Ends, none_waits, turns_are_made, goal_fails, Turns, IsRunOn}

-- the same goal with the same verdict commits the same, and leads on to the same
abbrev CommitsSame : List Asked → State → Commit → Commit → Option State → Option State → Type 0
CommitsSame goals s c d x y = (c ≡ d) × (x ≡ y)

same_turn : (goals : List Asked) (s : State) (c d : Commit) (x y : Option State) (ks js : List ℕ) (k j : ℕ) (a b : Asked) (v w : Verdict)
    → c ≡ committed s.store k a v → x ≡ turned goals ks k a v s → d ≡ committed s.store j b w → y ≡ turned goals js j b w s
    → ks ≡ js → k ≡ j → a ≡ b → v ≡ w → CommitsSame goals s c d x y
same_turn goals s c d x y ks js k j a b v w c1 x1 d1 y1 e f g h = (cc (c1, d1, f, g, h), cc (x1, y1, e, f, g, h))

module _ (clauses : Program) (goals : List Asked) (depth : ℕ) where
  pub turn_once : (s : State) (c d : Commit) (x y : Option State) → Turn clauses goals depth s c x → Turn clauses goals depth s d y → (c ≡ d) × (x ≡ y)
  turn_once s c d x y h i =
      let first : c.goal ∷ h.later ≡ d.goal ∷ i.later = sym h.first ∙ i.first in
      let number : c.goal ≡ d.goal = cc (first) in
      let later : h.later ≡ i.later = cc (first) in
      let some : Some h.asked ≡ Some i.asked = sym h.is_goal ∙ ap (goal_at goals) number ∙ i.is_goal in
      let asked : h.asked ≡ i.asked = cc (some) in
      let under : HasVerdict clauses depth h.asked.mode h.asked.goal.shape (face s.store h.asked.goal) d.verdict = subst (λ (a : Asked). HasVerdict clauses depth a.mode a.goal.shape (face s.store a.goal) d.verdict) (sym asked) i.has_verdict in
      let verdict : c.verdict ≡ d.verdict = verdict_once clauses depth h.asked.mode h.asked.goal.shape (face s.store h.asked.goal) c.verdict d.verdict h.has_verdict under in
      same_turn goals s c d x y h.later i.later c.goal d.goal h.asked i.asked c.verdict d.verdict h.commits h.leads i.commits i.leads later number asked verdict

  -- no turn follows the end of a run
  ends_there : (left : ℕ) (s t : State) (c : Commit) (r : Run) → Ends clauses goals depth left s r → Turn clauses goals depth s c (Some t) → (left ≡ 0 → ⊥) → ⊥
  ends_there left s t c r (none_waits w e) h some = let f : [] ≡ c.goal ∷ h.later = sym w ∙ h.first in absurd (cc (f))
  ends_there left s t c r (turns_are_made w z e) h some = some z
  ends_there left s t c r (goal_fails more l d i e) h some = let f : None ≡ Some t = (turn_once s d c None (Some t) i h).1 in absurd (cc (f))

  ends_once : (left : ℕ) (s : State) (r q : Run) → Ends clauses goals depth left s r → Ends clauses goals depth left s q → r ≡ q
  ends_once left s r q (none_waits w e) (none_waits x f) = e ∙ sym f
  ends_once left s r q (none_waits w e) (turns_are_made x z f) = absurd (x w)
  ends_once left s r q (none_waits w e) (goal_fails more l c h f) = let g : [] ≡ c.goal ∷ h.later = sym w ∙ h.first in absurd (cc (g))
  ends_once left s r q (turns_are_made w z e) (none_waits x f) = absurd (w x)
  ends_once left s r q (turns_are_made w z e) (turns_are_made x y f) = e ∙ sym f
  ends_once left s r q (turns_are_made w z e) (goal_fails more l c h f) = let g : 0 ≡ suc more = sym z ∙ l in absurd (cc (g))
  ends_once left s r q (goal_fails more l c h e) (none_waits x f) = let g : [] ≡ c.goal ∷ h.later = sym x ∙ h.first in absurd (cc (g))
  ends_once left s r q (goal_fails more l c h e) (turns_are_made x z f) = let g : 0 ≡ suc more = sym z ∙ l in absurd (cc (g))
  ends_once left s r q (goal_fails more l c h e) (goal_fails most m d i f) = e ∙ ap (failed s) (turn_once s c d None None h i).0 ∙ sym f

  -- whole turns that lead from the state lie on the way to its run
  pub on_the_way : (n m rest left : ℕ) (s t u : State) (r : Run) → n + rest ≡ m + left → Turns clauses goals depth n s t → Turns clauses goals depth m s u → Ends clauses goals depth left u r
      → IsRunOn clauses goals depth rest t r
  on_the_way zero m rest left s t u r e h i ends = record { made = m; left = left; within = omega (arith, e); last = u; leads = subst (λ x. Turns clauses goals depth m x u) h i; ends = ends }
  on_the_way (suc n) zero rest left s t u r e h i ends =
      let there : Ends clauses goals depth left s r = subst (λ x. Ends clauses goals depth left x r) (sym i) ends in
      absurd (ends_there left s h.1 h.0 r there h.2 (λ z. omega (arith, e, z)))
  on_the_way (suc n) (suc m) rest left s t u r e h i ends =
      let same : Some i.1 ≡ Some h.1 = (turn_once s i.0 h.0 (Some i.1) (Some h.1) i.2 h.2).1 in
      let next : i.1 ≡ h.1 = cc (same) in
      on_the_way n m rest left h.1 t u r (omega (arith, e)) h.3 (subst (λ x. Turns clauses goals depth m x u) next i.3) ends

  pub run_on_once : (turns : ℕ) (s : State) (r q : Run) → IsRunOn clauses goals depth turns s r → IsRunOn clauses goals depth turns s q → r ≡ q
  run_on_once turns s r q h k =
      let way = on_the_way h.made k.made h.left k.left s h.last k.last q (h.within ∙ sym k.within) h.leads k.leads k.ends in
      at_its_end h.left h.last r q h.ends way.made way.left way.last way.within way.leads way.ends
    where
      at_its_end : (left : ℕ) (t : State) (r q : Run) → Ends clauses goals depth left t r → (m more : ℕ) (u : State) → m + more ≡ left → Turns clauses goals depth m t u → Ends clauses goals depth more u q → r ≡ q
      at_its_end left t r q ends zero more u e same other = ends_once left t r q ends (subst (λ x. Ends clauses goals depth left x q) (sym same) (subst (λ n. Ends clauses goals depth n u q) (omega (arith, e)) other))
      at_its_end left t r q ends (suc m) more u e i other = absurd (ends_there left t i.1 i.0 r ends i.2 (λ z. omega (arith, e, z)))
