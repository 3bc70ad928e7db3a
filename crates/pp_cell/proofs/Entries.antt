-- A seat's entries among those of others, and facts of answers.
use Rattle.std.proofs.Common.{◌≡◌, ◌≢◌, ℕ, nat_eq, Bool, true, false, cond, List, [], ◌∷◌, ◌++◌, refl, ap, ◌∙◌, ⊎_elim, ne_eqb, eq-eqb, Result, Ok, Err, IfOk, Option, Some, None, IfSome, IfNone}
use Rattle.std.proofs.lemmas.List.{append_assoc}
use Rattle.pp_core.specs.declared.entry.EntryOf.{EntryOf}
use Rattle.pp_turn.specs.Logs.{Each, Adds}
use Rattle.pp_turn.proofs.Lists.{append_nil}
use Rattle.pp_cell.specs.Entries.{entries_of}

module _ {T V : Type 0} where
  own_append : (n : ℕ) (es fs : List (EntryOf T V)) → entries_of n (es ++ fs) ≡ entries_of n es ++ entries_of n fs
  own_append n [] fs = refl
  own_append n (e ∷ es) fs = by_test (nat_eq e.seat n) (own_append n es fs)
    where
      by_test : (b : Bool) → entries_of n (es ++ fs) ≡ entries_of n es ++ entries_of n fs → cond b (e ∷ entries_of n (es ++ fs)) (entries_of n (es ++ fs)) ≡ cond b (e ∷ entries_of n es) (entries_of n es) ++ entries_of n fs
      by_test true ih = ap (λ (l : List (EntryOf T V)). e ∷ l) ih
      by_test false ih = ih

  own_none : (n : ℕ) (es : List (EntryOf T V)) → Each (λ e. e.seat ≢ n) es → entries_of n es ≡ []
  own_none n [] a = refl
  own_none n (e ∷ es) a = ap (λ (b : Bool). cond b (e ∷ entries_of n es) (entries_of n es)) (ne_eqb e.seat n a.0) ∙ own_none n es a.1

  own_one : (n : ℕ) (e : EntryOf T V) → e.seat ≡ n → entries_of n (e ∷ []) ≡ e ∷ []
  own_one n e is = ap (λ (b : Bool). cond b (e ∷ []) []) (eq-eqb e.seat n is)

  -- entries of others add nothing
  pub own_same : (n : ℕ) (es fs : List (EntryOf T V)) → Each (λ e. e.seat ≢ n) fs → entries_of n (es ++ fs) ≡ entries_of n es
  own_same n es fs others = own_append n es fs ∙ (ap (λ (l : List (EntryOf T V)). entries_of n es ++ l) (own_none n fs others) ∙ append_nil (entries_of n es))

  -- after entries of others, an entry of one's own
  pub own_more : (n : ℕ) (es fs : List (EntryOf T V)) (e : EntryOf T V) → Each (λ e. e.seat ≢ n) fs → e.seat ≡ n → entries_of n ((es ++ fs) ++ e ∷ []) ≡ entries_of n es ++ e ∷ []
  own_more n es fs e others is = own_append n (es ++ fs) (e ∷ []) ∙ (ap (λ (l : List (EntryOf T V)). l ++ entries_of n (e ∷ [])) (own_same n es fs others) ∙ ap (λ (l : List (EntryOf T V)). entries_of n es ++ l) (own_one n e is))

-- what was seen, then entries of others, then perhaps one's own
pub longer_log : {L : Type 0} (bearer : L → ℕ) (n : ℕ) (seen old now later : List L) → old ≡ seen ++ later → Adds bearer n old now → (more : List L) × (now ≡ seen ++ more)
longer_log bearer n seen old now later is = ⊎_elim
    (λ (same : now ≡ old). (later, same ∙ is))
    (λ (one : (e : _) × (now ≡ old ++ e ∷ []) × (bearer e ≡ n)). (later ++ one.0 ∷ [], one.1 ∙ (ap (λ l. l ++ one.0 ∷ []) is ∙ append_assoc seen later (one.0 ∷ []))))

-- facts of what was answered
pub both_ok : {A E : Type 0} (P Q : A → Type 0) (r : Result A E) → IfOk r P → IfOk r Q → IfOk r (λ a. P a × Q a)
both_ok P Q (Ok a) p q = (p, q)
both_ok P Q (Err e) p q = tt

pub if_some : {A : Type 0} (P Q : A → Type 0) (o : Option A) → ((a : A) → P a → Q a) → IfSome o P → IfSome o Q
if_some P Q (Some a) f h = f a h
if_some P Q None f h = tt

pub if_none : {A : Type 0} (P Q : Type 0) (o : Option A) → (P → Q) → IfNone o P → IfNone o Q
if_none P Q (Some a) f h = tt
if_none P Q None f h = f h
