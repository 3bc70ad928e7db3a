-- Where a walker stands is found again from its path: if it stands there at all, it is known how.
use Rattle.std.proofs.Common.{◌≡◌, ◌+◌, ◌-◌, ℕ, zero, suc, arith, List, [], ◌∷◌, length, reverse, inl, inr, refl, ap, subst}
use Rattle.std.proofs.Math.Logic.{∥∥₁_elim, ∥∥₁_map}
use Rattle.std.specs.Coded.{Coded-set}
use Rattle.pp_sld.specs.Goals.{Program, Config}
use Rattle.pp_sld.specs.Trace.{trace}
use Rattle.pp_sld.specs.Ways.{Way, Leads, IsDead, Next, finished, left_loose, fails, one, choices, next}
use Rattle.pp_sld.specs.Reach.{Passes, Reaches, Stands}
use Rattle.pp_sld.proofs.Trees.{tree, went_tree}
use Rattle.pp_sld.proofs.Once.{leads_once, leads_or_dead}
use Rattle.pp_sld.proofs.Exists.{goes}
use Rattle.pp_sld.proofs.Standing.{reaches_once, path_reaches_or_misses}
use Rattle.pp_walk.specs.Places.{Place, config_code}
use Rattle.pp_walk.specs.Moves.{IsAtChoice}
use Rattle.pp_explore.specs.Standing.{AreAbove, StandsOver}

never : {A : Type 0} → ∥ A ∥₁ → (A → ⊥) → ⊥
never h k = ∥∥₁_elim h (λ x y. absurd x) k

module _ (clauses : Program) where
  abbrev far : Config → ℕ
  far c = length (trace (tree clauses c))

  passes_far : (n : ℕ) (c d : Config) → Passes clauses n c d → far c ≡ n + far d
  passes_far zero c d p = let e : far c ≡ far d = ap far p in omega (arith, e)
  passes_far (suc n) c d p =
      let e : far c ≡ suc (far p.2) = ap length (went_tree clauses c p.0 p.2 p.1 p.3) in
      omega (arith, e, passes_far n p.2 d p.4)

  pass_on : (n : ℕ) (c d : Config) (w : Way) (b : Config) → next clauses c ≡ one w → Leads w b → Passes clauses (suc n) c d → Passes clauses n b d
  pass_on n c d w b e l p =
      let v : p.0 ≡ w = cc (p.1, e) in
      subst (λ x. Passes clauses n x d) (leads_once w p.2 b (subst (λ x. Leads x p.2) v p.3) l) p.4

  no_pass : (n : ℕ) (c d : Config) → ((w : Way) → next clauses c ≡ one w → ⊥) → ∥ Passes clauses (suc n) c d ∥₁ → Passes clauses (suc n) c d
  no_pass n c d k h = absurd (never h (λ p. k p.0 p.1))

  one_again : (n : ℕ) (c d : Config) (x : Next) → next clauses c ≡ x → ∥ Passes clauses (suc n) c d ∥₁ → ((b : Config) → ∥ Passes clauses n b d ∥₁ → Passes clauses n b d) → Passes clauses (suc n) c d
  one_again n c d finished e h k = no_pass n c d (λ w f. cc (e, f)) h
  one_again n c d left_loose e h k = no_pass n c d (λ w f. cc (e, f)) h
  one_again n c d fails e h k = no_pass n c d (λ w f. cc (e, f)) h
  one_again n c d (choices ws) e h k = no_pass n c d (λ w f. cc (e, f)) h
  one_again n c d (one w) e h k =
      elim (goes w) [
        | inl a ↦ (w, e, a.0, a.1, k a.0 (∥∥₁_map h (pass_on n c d w a.0 e a.1)))
        | inr dead ↦ no_pass n c d (λ v f. dead_passes v f dead) h
      ]
    where
      dead_passes : (v : Way) → next clauses c ≡ one v → IsDead w → ⊥
      dead_passes v f dead = absurd (never h (λ p. let i : p.0 ≡ w = cc (p.1, e) in leads_or_dead w p.2 (subst (λ x. Leads x p.2) i p.3) dead))

  passes_again : (n : ℕ) (c d : Config) → ∥ Passes clauses n c d ∥₁ → Passes clauses n c d
  passes_again zero c d h = ∥∥₁_elim h (Coded-set config_code c d) (λ e. e)
  passes_again (suc n) c d h = one_again n c d (next clauses c) refl h (λ b i. passes_again n b d i)

  -- how many built-ins there are between is known
  so_many : (c d e : Config) (ks : List ℕ) → Reaches clauses c ks d → Stands clauses c ks e → Passes clauses (far d - far e) d e
  so_many c d e ks r s =
      let p : Passes clauses s.1 d e = subst (λ x. Passes clauses s.1 x e) (reaches_once clauses ks c s.0 d s.2 r) s.3 in
      let n : s.1 ≡ far d - far e = omega (arith, passes_far s.1 d e p) in
      subst (λ x. Passes clauses x d e) n p

  pub stands_again : (c : Config) (ks : List ℕ) (e : Config) → ∥ Stands clauses c ks e ∥₁ → Stands clauses c ks e
  stands_again c ks e h =
      elim (path_reaches_or_misses clauses c ks) [
        | inl r ↦ (r.0, far r.0 - far e, r.1, passes_again (far r.0 - far e) r.0 e (∥∥₁_map h (so_many c r.0 e ks r.1)))
        | inr m ↦ absurd (never h (λ s. m s.0 s.2))
      ]

  no_choice : (b : Config) → ((ws : List Way) → next clauses b ≡ choices ws → ⊥) → ∥ IsAtChoice clauses b ∥₁ → IsAtChoice clauses b
  no_choice b k h = absurd (never h (λ x. k x.0 x.1))

  by_next : (b : Config) (x : Next) → next clauses b ≡ x → ∥ IsAtChoice clauses b ∥₁ → IsAtChoice clauses b
  by_next b finished e h = no_choice b (λ ws f. cc (e, f)) h
  by_next b left_loose e h = no_choice b (λ ws f. cc (e, f)) h
  by_next b fails e h = no_choice b (λ ws f. cc (e, f)) h
  by_next b (one w) e h = no_choice b (λ ws f. cc (e, f)) h
  by_next b (choices ws) e h = (ws, e)

  above_again : (root : Config) (bs : List Config) (ks : List ℕ) → ∥ AreAbove clauses root bs ks ∥₁ → AreAbove clauses root bs ks
  above_again root [] [] h = tt
  above_again root [] (k ∷ ks) h = never h (λ x. x)
  above_again root (b ∷ bs) [] h = never h (λ x. x)
  above_again root (b ∷ bs) (k ∷ ks) h = (by_next b (next clauses b) refl (∥∥₁_map h (λ x. x.0)), stands_again root (reverse ks) b (∥∥₁_map h (λ x. x.1)), above_again root bs ks (∥∥₁_map h (λ x. x.2)))

  pub over_again : (root : Config) (p : Place) (ks : List ℕ) → ∥ StandsOver clauses root p ks ∥₁ → StandsOver clauses root p ks
  over_again root p ks h = (stands_again root ks p.here (∥∥₁_map h (λ x. x.0)), above_again root p.above (reverse ks) (∥∥₁_map h (λ x. x.1)))
