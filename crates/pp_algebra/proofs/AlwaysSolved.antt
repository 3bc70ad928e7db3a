-- Solving ends whatever the domains are: empty ones and those of one value too.
use Rattle.std.proofs.Common.{◌≡◌, ℕ, zero, suc, List, [], ◌∷◌, ◌++◌, Option, None, refl, ap, sym, ◌∙◌, subst, ◌⊎◌, inl, inr}
use Rattle.std.specs.Prelude.{nat_eq}
use Rattle.pp_algebra.specs.Terms.{Tree}
use Rattle.pp_algebra.specs.Rows.{Domain, Domains, domain_at, beside}
use Rattle.pp_algebra.specs.Covers.{MayGo}
use Rattle.pp_algebra.specs.Laws.{RowsSolve, PairsSolve}
use Rattle.pp_algebra.proofs.CanonLemmas.{nat_eq-IsSame}
use Rattle.pp_algebra.proofs.Solved.{same_either-IsSame, solved_listed}
use Rattle.pp_algebra.specs.Canon.{same_either}

pub rows_solve : RowsSolve
rows_solve ds ts items = solved_listed nat_eq nat_eq-IsSame (record { columns = ts; domains = domain_at ds }) items (λ v. v) ds (λ v. refl) (λ q b h. h)

abbrev kinds : List (Option Domain) → List (Option Domain) → Domains (ℕ ⊎ ℕ)
kinds ds es = beside (domain_at ds) (domain_at es)

-- the variables of the first kind that the list speaks of, and then those of the second kind
abbrev shift : ℕ ⊎ ℕ → ℕ ⊎ ℕ
shift (inl v) = inl (suc v)
shift (inr v) = inr v

abbrev name : List (Option Domain) → ℕ → ℕ ⊎ ℕ
name [] v = inr v
name (d ∷ ds) zero = inl zero
name (d ∷ ds) (suc v) = shift (name ds v)

shifted : (d : Option Domain) (ds es : List (Option Domain)) (w : ℕ ⊎ ℕ) → kinds (d ∷ ds) es (shift w) ≡ kinds ds es w
shifted d ds es (inl v) = refl
shifted d ds es (inr v) = refl

named : (ds es : List (Option Domain)) (v : ℕ) → kinds ds es (name ds v) ≡ domain_at (ds ++ es) v
named [] es v = refl
named (d ∷ ds) es zero = refl
named (d ∷ ds) es (suc v) = shifted d ds es (name ds v) ∙ named ds es v

-- a variable has the domain `any` or a name
found : (ds es : List (Option Domain)) (w : ℕ ⊎ ℕ) → (kinds ds es w ≡ None) ⊎ ((v : ℕ) × (name ds v ≡ w))
found [] es (inl v) = inl refl
found [] es (inr v) = inr (v, refl)
found (d ∷ ds) es (inl zero) = inr (zero, refl)
found (d ∷ ds) es (inl (suc v)) = elim (found ds es (inl v)) [ inl e ↦ inl e | inr k ↦ inr (suc k.0, ap shift k.1) ]
found (d ∷ ds) es (inr v) = elim (found ds es (inr v)) [ inl e ↦ inl e | inr k ↦ inr (suc k.0, ap shift k.1) ]

all_go : (ds es : List (Option Domain)) (q : Domains ℕ) (b : ℕ ⊎ ℕ → Tree ℕ) → ((v : ℕ) → MayGo q (kinds ds es (name ds v)) (b (name ds v))) → (w : ℕ ⊎ ℕ) → MayGo q (kinds ds es w) (b w)
all_go ds es q b h w = elim (found ds es w) [
  | inl e ↦ subst (λ o. MayGo q o (b w)) (sym e) tt
  | inr k ↦ subst (λ x. MayGo q (kinds ds es x) (b x)) k.1 (h k.0)
]

pub pairs_solve : PairsSolve
pairs_solve ds es ts items = solved_listed same_either same_either-IsSame (record { columns = ts; domains = kinds ds es }) items (name ds) (ds ++ es) (named ds es) (all_go ds es)

pub rows_always_solve : RowsSolve
rows_always_solve = rows_solve
