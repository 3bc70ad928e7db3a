-- Solving in stages: the items of a second stage, over the row that the first stage gave and over fresh variables.
use Rattle.std.specs.Prelude.{ℕ, ◌⊎◌, List, [], ◌∷◌, ◌++◌, map, None}
use Rattle.std.proofs.Common.{inl, inr}
use Rattle.pp_algebra.specs.Terms.{Tree, variable, Trees, put, put_all, variables, variables_all}
use Rattle.pp_algebra.specs.Rows.{Domains, beside, Pattern}
use Rattle.pp_algebra.specs.Covers.{IsIn}
use Rattle.pp_algebra.specs.Solve.{Item, equation, membership, put_item, Problem}

abbrev pub pattern : {V : Type 0} → Trees V → Domains V → Pattern V
pattern ts ds = record { columns = ts; domains = ds }

-- fresh variables have the domain `any`
abbrev pub with_fresh : {U : Type 0} (W : Type 0) → Domains U → Domains (U ⊎ W)
with_fresh W ds = beside ds (λ w. None)

abbrev pub kept : {U : Type 0} (W : Type 0) → U → Tree (U ⊎ W)
kept W u = variable (inl u)

-- a variable is the row's term for it, and a fresh one stays
abbrev pub moved : {U : Type 0} (W : Type 0) → (U → Tree ℕ) → U ⊎ W → Tree (ℕ ⊎ W)
moved W s (inl u) = put (kept W) (s u)
moved W s (inr w) = variable (inr w)

-- the variables of these columns that aren't fresh stand in those
abbrev pub ColumnsSpeakOf : {U W : Type 0} → Trees U → Trees (U ⊎ W) → Type 0
ColumnsSpeakOf {U} ts us = (u : U) → IsIn (inl u) (variables_all us) → IsIn u (variables_all ts)

abbrev pub TermSpeaksOf : {U W : Type 0} → Trees U → Tree (U ⊎ W) → Type 0
TermSpeaksOf {U} ts t = (u : U) → IsIn (inl u) (variables t) → IsIn u (variables_all ts)

abbrev pub ItemsSpeakOf : {U W : Type 0} → Trees U → List (Item (U ⊎ W)) → Type 0
ItemsSpeakOf ts [] = Unit {0}
ItemsSpeakOf ts (equation a b ∷ is) = TermSpeaksOf ts a × TermSpeaksOf ts b × ItemsSpeakOf ts is
ItemsSpeakOf ts (membership t d ∷ is) = TermSpeaksOf ts t × ItemsSpeakOf ts is

-- one problem of all the items at once
abbrev pub problem_at_once : {U : Type 0} (W : Type 0) → Domains U → List (Item U) → Trees (U ⊎ W) → List (Item (U ⊎ W)) → Problem (U ⊎ W)
problem_at_once W ds items us later = (pattern us (with_fresh W ds), map (put_item (kept W)) items ++ later)

-- the problem of the later items alone, over the variables of the row that the first ones gave
abbrev pub problem_in_stages : {U : Type 0} (W : Type 0) → (U → Tree ℕ) → Domains ℕ → Trees (U ⊎ W) → List (Item (U ⊎ W)) → Problem (ℕ ⊎ W)
problem_in_stages W by ds us later = (pattern (put_all (moved W by) us) (with_fresh W ds), map (put_item (moved W by)) later)
