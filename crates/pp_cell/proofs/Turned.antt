-- What a pass knows of the search, once its turn is over.
use Rattle.std.proofs.Common.{◌≡◌, ◌≢◌, ℕ, Bool, List, [], ◌∷◌, ◌++◌, Option, Some, refl, sym, ap, ◌∙◌, subst}
use Rattle.std.proofs.Math.Logic.{∥∥₁_elim}
use Rattle.pp_space.specs.declared.space.Space as space
use Rattle.pp_space.specs.declared.lattice.Lattice as lattice
use Rattle.pp_core.specs.declared.entry.Act.{Act}
use Rattle.pp_core.specs.declared.entry.EntryOf.{EntryOf}
use Rattle.pp_turn.specs.Logs.{Each, Later}
use Rattle.pp_cell.specs.declared.cell.Pass.{Pass}
use Rattle.pp_cell.specs.Entries.{entry, entries_of}
use Rattle.pp_cell.specs.Passes.{pass_journal, pass_number, Enters}
use Rattle.pp_cell.proofs.Books.{Tells, tells_same}
use Rattle.pp_cell.proofs.Entries.{own_more, own_same}

-- ===== what a book is based on

-- a value that is given is the one that a seat is based on
pub based_on : {A B : Type 0} (f : A → B) → IsSet B → (x y : A) (b : Option A) → Some x ≡ b → ∥ b ≡ Some y ∥₁ → f x ≡ f y
based_on f set x y b is based = ∥∥₁_elim based (set (f x) (f y)) (λ e. let given : Some x ≡ Some y = is ∙ e in let same : x ≡ y = cc in ap f same)

module _ {X T V : Type 0} (same : T → T → Bool) (joined : X → V → V → V) (worth : X → T → V) (bottom : X → V) (fits : X → V → Type 0) where
  -- what a book tells holds of its pass's space and root, by all that the pass has seen
  pub knows : {A : Type 0} (space_of : A → X) (root_of : A → T) → IsSet X → IsSet T → {given based : A} {b : Option A} → Some given ≡ b → ∥ b ≡ Some based ∥₁
      → {x : X} {root : T} → x ≡ space_of given → root ≡ root_of given → (live : List T) (value : V) (es seen : List (EntryOf T V)) → seen ≡ es
      → Tells same joined worth bottom fits x root live value es
      → (x ≡ space_of based) × (root ≡ root_of based) × Tells same joined worth bottom fits (space_of based) (root_of based) live value seen
  knows space_of root_of spaces roots is based a b live value es seen c t =
      let space = a ∙ based_on space_of spaces _ _ _ is based in
      let root = b ∙ based_on root_of roots _ _ _ is based in
      (space, root, tells_same same joined worth bottom fits _ _ _ _ live live value value es seen (sym space) (sym root) refl refl c t)

-- ===== what was written

module _ {S T V O : Type 0} {sp : space.Ghosts S T V O} {la : lattice.Ghosts S V O} (p q : Pass S T V O sp la) (seat : ℕ) (old new : List (EntryOf T V)) where
  -- one entry of its own, behind all that the pass had seen and entries of others
  pub enters : (act : Act T V) → seat ≡ pass_number p → pass_number q ≡ pass_number p → Later (λ e. e.seat) seat (pass_journal p) old → pass_journal q ≡ new → new ≡ old ++ entry (pass_number p) act ∷ [] → Enters p act q
  enters act is number log now written =
      let others = subst (λ n. Each (λ e. e.seat ≢ n) log.0) is log.2 in
      let journal : pass_journal q ≡ (pass_journal p ++ log.0) ++ entry (pass_number p) act ∷ [] = now ∙ (written ∙ ap (λ l. l ++ entry (pass_number p) act ∷ []) log.1) in
      record {
        others = log.0;
        journal = journal;
        foreign = others;
        own = (λ i. entries_of (number i) (journal i)) ∙ own_more (pass_number p) (pass_journal p) log.0 (entry (pass_number p) act) others refl;
      }

-- entries of others alone
pub saw_others : {T V : Type 0} (number seat : ℕ) (seen now old new : List (EntryOf T V)) → seat ≡ number → Later (λ e. e.seat) seat seen old → now ≡ new → new ≡ old
    → Later (λ e. e.seat) number seen now × (entries_of number now ≡ entries_of number seen)
saw_others number seat seen now old new is log same written =
    let others = subst (λ n. Each (λ e. e.seat ≢ n) log.0) is log.2 in
    let journal : now ≡ seen ++ log.0 = same ∙ (written ∙ log.1) in
    ((log.0, journal, others), ap (entries_of number) journal ∙ own_same number seen log.0 others)
