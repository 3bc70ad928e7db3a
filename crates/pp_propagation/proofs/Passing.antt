-- What whole turns keep: they can be put together, each adds one commit to the history, and a run passes through them.
use Rattle.std.proofs.Common.{◌≡◌, ℕ, zero, suc, ◌+◌, List, [], ◌∷◌, ◌++◌, length, append-nil, append_assoc, Some, None, refl, ap, sym, ◌∙◌, subst, arith}
use Rattle.std.proofs.lemmas.List.{length_push}
use Rattle.pp_sld.specs.Goals.{Program}
use Rattle.pp_sld.specs.Verdicts.{Verdict, fail, same, nothing, unfinished, narrow}
use Rattle.pp_propagation.specs.Stores.{Asked}
use Rattle.pp_propagation.specs.Turns.{Commit, State, committed, turned, Turn}
use Rattle.pp_propagation.specs.Runs.{Run, Ends, none_waits, turns_are_made, goal_fails, Turns, IsRunOn}
use Rattle.pp_propagation.proofs.Once.{on_the_way}

-- later entries of a history
abbrev Follows : List Commit → List Commit → Type 0
Follows before after = (later : List Commit) × (after ≡ before ++ later)

some_is : (s t : State) → Some s ≡ Some t → s ≡ t
some_is s t e = cc (e)

turned_adds : (goals : List Asked) (later : List ℕ) (k : ℕ) (a : Asked) (v : Verdict) (s t : State) → Some t ≡ turned goals later k a v s → t.history ≡ s.history ++ committed s.store k a v ∷ []
turned_adds goals later k a fail s t e = let f : Some t ≡ None = e in absurd (cc (f))
turned_adds goals later k a same s t e = ap (λ (x : State). x.history) (some_is t _ e)
turned_adds goals later k a nothing s t e = ap (λ (x : State). x.history) (some_is t _ e)
turned_adds goals later k a unfinished s t e = ap (λ (x : State). x.history) (some_is t _ e)
turned_adds goals later k a (narrow given) s t e = ap (λ (x : State). x.history) (some_is t _ e)

module _ (clauses : Program) (goals : List Asked) (depth : ℕ) where
  pub turn_adds : (s t : State) (c : Commit) → Turn clauses goals depth s c (Some t) → t.history ≡ s.history ++ c ∷ []
  turn_adds s t c h = turned_adds goals h.later c.goal h.asked c.verdict s t h.leads ∙ ap (λ x. s.history ++ x ∷ []) (sym h.commits)

  pub one_more : (n : ℕ) (s t u : State) (c : Commit) → Turns clauses goals depth n s t → Turn clauses goals depth t c (Some u) → Turns clauses goals depth (suc n) s u
  one_more zero s t u c e h = (c, u, subst (λ x. Turn clauses goals depth x c (Some u)) (sym e) h, refl)
  one_more (suc n) s t u c k h = (k.0, k.1, k.2, one_more n k.1 t u c k.3 h)

  pub counted : (n : ℕ) (s t : State) → Turns clauses goals depth n s t → length t.history ≡ length s.history + n
  counted zero s t e = ap (λ (x : State). length x.history) (sym e) ∙ omega arith
  counted (suc n) s t h = counted n h.1 t h.3 ∙ ap (λ cs. length cs + n) (turn_adds s h.1 h.0 h.2) ∙ ap (λ m. m + n) (length_push s.history h.0) ∙ omega arith

  pub goes_on : (n rest : ℕ) (s t : State) (r : Run) → Turns clauses goals depth n s t → IsRunOn clauses goals depth rest t r → IsRunOn clauses goals depth (n + rest) s r
  goes_on zero rest s t r e h = subst (λ x. IsRunOn clauses goals depth (0 + rest) x r) (sym e) (subst (λ m. IsRunOn clauses goals depth m t r) (omega arith) h)
  goes_on (suc n) rest s t r k h =
      let on = goes_on n rest k.1 t r k.3 h in
      record { made = suc on.made; left = on.left; within = omega (arith, on.within); last = on.last; leads = (k.0, k.1, k.2, on.leads); ends = on.ends }

  followed : (before middle after : List Commit) (c : Commit) → middle ≡ before ++ c ∷ [] → Follows middle after → Follows before after
  followed before middle after c e f = (c ∷ f.0, f.1 ∙ ap (λ cs. cs ++ f.0) e ∙ append_assoc before (c ∷ []) f.0)

  turns_follow : (n : ℕ) (s t : State) → Turns clauses goals depth n s t → Follows s.history t.history
  turns_follow zero s t e = ([], ap (λ (x : State). x.history) (sym e) ∙ sym (append-nil s.history))
  turns_follow (suc n) s t h = followed s.history h.1.history t.history h.0 (turn_adds s h.1 h.0 h.2) (turns_follow n h.1 t h.3)

  end_follows : (left : ℕ) (before : List Commit) (s : State) (r : Run) → Follows before s.history → Ends clauses goals depth left s r → Follows before r.history
  end_follows left before s r f (none_waits w e) = (f.0, ap (λ (x : Run). x.history) e ∙ f.1)
  end_follows left before s r f (turns_are_made w z e) = (f.0, ap (λ (x : Run). x.history) e ∙ f.1)
  end_follows left before s r f (goal_fails more l c h e) = (f.0 ++ c ∷ [], ap (λ (x : Run). x.history) e ∙ ap (λ cs. cs ++ c ∷ []) f.1 ∙ append_assoc before f.0 (c ∷ []))

  pub passes_through : (n rest turns : ℕ) (s t : State) (r : Run) → n + rest ≡ turns → Turns clauses goals depth n s t → IsRunOn clauses goals depth turns s r
      → IsRunOn clauses goals depth rest t r × Follows t.history r.history
  passes_through n rest turns s t r e h k =
      let way = on_the_way clauses goals depth n k.made rest k.left s t k.last r (e ∙ sym k.within) h k.leads k.ends in
      (way, end_follows way.left t.history way.last r (turns_follow way.made t way.last way.leads) way.ends)
