-- What a desk has seen stays below what its pass sees.
use Rattle.std.proofs.Common.{◌≡◌, sym, ap, ◌∙◌, subst}

pub still_below : {X V : Type 0} (F : X → V → Type 0) (joined : X → V → V → V)
    → ((x : X) (a b c : V) → ∥ F x a ∥₁ → ∥ F x b ∥₁ → ∥ F x c ∥₁ → joined x (joined x a b) c ≡ joined x a (joined x b c))
    → (x y : X) (seen mid high : V) → y ≡ x → ∥ F x seen ∥₁ → ∥ F x mid ∥₁ → ∥ F y high ∥₁ → joined x seen mid ≡ mid → joined y mid high ≡ high → joined y seen high ≡ high
still_below {X} {V} F joined associative x y seen mid high is fs fm fh low up =
    let fs' : ∥ F y seen ∥₁ = subst (λ (z : X). ∥ F z seen ∥₁) (sym is) fs in
    let fm' : ∥ F y mid ∥₁ = subst (λ (z : X). ∥ F z mid ∥₁) (sym is) fm in
    let low' : joined y seen mid ≡ mid = subst (λ (z : X). joined z seen mid ≡ mid) (sym is) low in
    ap (λ (v : V). joined y seen v) (sym up) ∙ (sym (associative y seen mid high fs' fm' fh) ∙ (ap (λ (v : V). joined y v high) low' ∙ up))
