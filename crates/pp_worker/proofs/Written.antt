-- What turns write, and looks, one after another.
use Rattle.std.proofs.Common.{◌≡◌, ℕ, zero, suc, List, [], ◌∷◌, ◌++◌, refl, ap, sym, ◌∙◌, append_assoc, append-nil}
use Rattle.pp_core.specs.declared.accepted.Accepted.{Accepted}
use Rattle.pp_core.specs.declared.report.ReportOf.{ReportOf}
use Rattle.pp_core.specs.declared.entry.Act.TheVariants.{Looked}
use Rattle.pp_core.specs.declared.entry.EntryOf.{EntryOf}
use Rattle.pp_cell.specs.Entries.{entry}
use Rattle.pp_worker.specs.Turns.{writes, writes_all, looks}

module _ {T V : Type 0} where
  written : (n : ℕ) (xs ys : List (Accepted × ReportOf T V)) → writes_all n (xs ++ ys) ≡ writes_all n xs ++ writes_all n ys
  written n [] ys = refl
  written n (x ∷ xs) ys = ap (λ (l : List (EntryOf T V)). writes n x.0 x.1 ++ l) (written n xs ys) ∙ sym (append_assoc (writes n x.0 x.1) (writes_all n xs) (writes_all n ys))

  -- a turn that wrote nothing, and one that wrote what it writes
  pub written_none : (n : ℕ) (old new : List (EntryOf T V)) → new ≡ old → new ≡ old ++ writes_all n []
  written_none n old new is = is ∙ sym (append-nil old)

  pub written_one : (n : ℕ) (old new : List (EntryOf T V)) (a : Accepted) (r : ReportOf T V) → new ≡ old ++ writes n a r → new ≡ old ++ writes_all n ((a, r) ∷ [])
  written_one n old new a r is = is ∙ ap (λ (l : List (EntryOf T V)). old ++ l) (sym (append-nil (writes n a r)))

  -- more of them behind the ones before
  pub written_then : (n m : ℕ) (old mid new : List (EntryOf T V)) (xs ys : List (Accepted × ReportOf T V)) → m ≡ n → mid ≡ old ++ writes_all n xs → new ≡ mid ++ writes_all m ys → new ≡ old ++ writes_all n (xs ++ ys)
  written_then n m old mid new xs ys same one two =
      two ∙ ((λ i. one i ++ writes_all (same i) ys) ∙ (append_assoc old (writes_all n xs) (writes_all n ys) ∙ ap (λ (l : List (EntryOf T V)). old ++ l) (sym (written n xs ys))))

  looks_end : (n k : ℕ) → ◌≡◌ {A = List (EntryOf T V)} (looks n k ++ entry n Looked ∷ []) (looks n (suc k))
  looks_end n zero = refl
  looks_end n (suc k) = ap (λ (l : List (EntryOf T V)). entry n Looked ∷ l) (looks_end n k)

  -- one look more
  pub looked_then : (n m k : ℕ) (old mid new : List (EntryOf T V)) → m ≡ n → mid ≡ old ++ looks n k → new ≡ mid ++ entry m Looked ∷ [] → new ≡ old ++ looks n (suc k)
  looked_then n m k old mid new same one two =
      two ∙ ((λ i. one i ++ entry (same i) Looked ∷ []) ∙ (append_assoc old (looks n k) (entry n Looked ∷ []) ∙ ap (λ (l : List (EntryOf T V)). old ++ l) (looks_end n k)))
