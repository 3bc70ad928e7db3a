-- Numbering by first occurrence, one term and one goal after another.
use Rattle.std.proofs.Common.{◌≡◌, ℕ, List, [], ◌∷◌, ◌++◌, map, refl, ap, sym, ◌∙◌, append-nil}
use Rattle.std.specs.Prelude.{nat_eq}
use Rattle.std.specs.List.{flat_map}
use Rattle.std.proofs.lemmas.List.{map-append}
use Rattle.std.proofs.lemmas.List.Concat.{flat_map-append}
use Rattle.pp_algebra.specs.Terms.{Tree, variable, put, variables}
use Rattle.pp_algebra.specs.Canon.{has, place, firsts}
use Rattle.pp_algebra.specs.Covers.{IsIn}
use Rattle.pp_algebra.proofs.Order.{IsIn-left, IsIn-right}
use Rattle.pp_algebra.proofs.Antisym.{put-agree}
use Rattle.pp_algebra.proofs.CanonLemmas.{nat_eq-IsSame, has-all}
use Rattle.pp_row.proofs.Numbering.{place_stays, firsts-append}
use Rattle.pp_row.proofs.ColumnLists.{variables-push}
use Rattle.pp_term.specs.declared.clause.Goal.{Goal}
use Rattle.pp_term.specs.declared.clause.Goal.TheVariants.{Call, Equate, Member, Compare}
use Rattle.pp_term.specs.declared.clause.Clause.{Clause}
use Rattle.pp_build.specs.Renumbered.{variables_in, goal_variables, placed, put_goal, put_clause, renumbered}

-- ===== two substitutions that agree on the variables

module _ (f g : ℕ → Tree ℕ) where
  abbrev pub Agree : List ℕ → Type 0
  Agree vs = (v : ℕ) → IsIn v vs → f v ≡ g v

  pub terms_agree : (ts : List (Tree ℕ)) → Agree (variables_in ts) → map (put f) ts ≡ map (put g) ts
  terms_agree [] h = refl
  terms_agree (t ∷ ts) h = rw (put-agree f g t (λ v i. h v (IsIn-left v (variables t) (variables_in ts) i)), terms_agree ts (λ v i. h v (IsIn-right v (variables t) (variables_in ts) i))) refl

  pair_agree : (a b : Tree ℕ) → Agree (variables_in (a ∷ b ∷ [])) → (put f a ≡ put g a) × (put f b ≡ put g b)
  pair_agree a b h = let e = terms_agree (a ∷ b ∷ []) h in (cc, cc)

  goal_agree : (x : Goal) → Agree (goal_variables x) → put_goal f x ≡ put_goal g x
  goal_agree (Call s ts) h = ap (Call s) (terms_agree ts h)
  goal_agree (Equate a b) h = let p = pair_agree a b h in rw (p.0, p.1) refl
  goal_agree (Member t d) h = ap (λ u. Member u d) (put-agree f g t (λ v i. h v (IsIn-left v (variables t) [] i)))
  goal_agree (Compare r a b) h = let p = pair_agree a b h in rw (p.0, p.1) refl

  pub goals_agree : (xs : List Goal) → Agree (flat_map goal_variables xs) → map (put_goal f) xs ≡ map (put_goal g) xs
  goals_agree [] h = refl
  goals_agree (x ∷ xs) h = rw (goal_agree x (λ v i. h v (IsIn-left v (goal_variables x) (flat_map goal_variables xs) i)), goals_agree xs (λ v i. h v (IsIn-right v (goal_variables x) (flat_map goal_variables xs) i))) refl

-- ===== what was taken in keeps its place

module _ (start vs ws old new : List ℕ) (e : old ≡ firsts nat_eq start vs) (f : new ≡ firsts nat_eq old ws) where
  keeps : Agree (placed old) (placed new) vs
  keeps v i = sym (ap variable (ap (λ ns. place nat_eq ns v) f ∙ place_stays nat_eq old ws v (ap (λ ns. has nat_eq ns v) e ∙ has-all nat_eq nat_eq-IsSame start vs v i)))

  pub seen_both : new ≡ firsts nat_eq start (vs ++ ws)
  seen_both = f ∙ ap (λ ns. firsts nat_eq ns ws) e ∙ sym (firsts-append nat_eq start vs ws)

module _ (start old new : List ℕ) (ts out : List (Tree ℕ)) (e : old ≡ firsts nat_eq start (variables_in ts)) (g : out ≡ map (put (placed old)) ts) where
  pub terms_keep : (ws : List ℕ) → new ≡ firsts nat_eq old ws → out ≡ map (put (placed new)) ts
  terms_keep ws f = g ∙ terms_agree (placed old) (placed new) ts (keeps start (variables_in ts) ws old new e f)

  pub terms_seen : (t : Tree ℕ) → new ≡ firsts nat_eq old (variables t) → new ≡ firsts nat_eq start (variables_in (ts ++ t ∷ []))
  terms_seen t f = seen_both start (variables_in ts) (variables t) old new e f ∙ ap (firsts nat_eq start) (sym (variables-push ts t))

  pub terms_pushed : (t u : Tree ℕ) → new ≡ firsts nat_eq old (variables t) → u ≡ put (placed new) t → out ++ u ∷ [] ≡ map (put (placed new)) (ts ++ t ∷ [])
  terms_pushed t u f h = ap (λ us. us ++ u ∷ []) (terms_keep (variables t) f) ∙ ap (λ x. map (put (placed new)) ts ++ x ∷ []) h ∙ sym (map-append (put (placed new)) ts (t ∷ []))

module _ (start old new : List ℕ) (xs out : List Goal) (e : old ≡ firsts nat_eq start (flat_map goal_variables xs)) (g : out ≡ map (put_goal (placed old)) xs) (x y : Goal) (f : new ≡ firsts nat_eq old (goal_variables x)) where
  pub goals_seen : new ≡ firsts nat_eq start (flat_map goal_variables (xs ++ x ∷ []))
  goals_seen =
      seen_both start (flat_map goal_variables xs) (goal_variables x) old new e f
      ∙ ap (λ vs. firsts nat_eq start (flat_map goal_variables xs ++ vs)) (sym (append-nil (goal_variables x)))
      ∙ ap (firsts nat_eq start) (sym (flat_map-append goal_variables xs (x ∷ [])))

  pub goals_pushed : y ≡ put_goal (placed new) x → out ++ y ∷ [] ≡ map (put_goal (placed new)) (xs ++ x ∷ [])
  goals_pushed h =
      ap (λ ys. ys ++ y ∷ []) (g ∙ goals_agree (placed old) (placed new) xs (keeps start (flat_map goal_variables xs) (goal_variables x) old new e f))
      ∙ ap (λ z. map (put_goal (placed new)) xs ++ z ∷ []) h ∙ sym (map-append (put_goal (placed new)) xs (x ∷ []))

-- ===== a pair

pub pair_seen : (start old new : List ℕ) (a b : Tree ℕ) → old ≡ firsts nat_eq start (variables a) → new ≡ firsts nat_eq old (variables b) → new ≡ firsts nat_eq start (variables_in (a ∷ b ∷ []))
pair_seen start old new a b e f = seen_both start (variables a) (variables b) old new e f ∙ ap (λ vs. firsts nat_eq start (variables a ++ vs)) (sym (append-nil (variables b)))

pub first_keeps : (start old new : List ℕ) (a : Tree ℕ) (ws : List ℕ) → old ≡ firsts nat_eq start (variables a) → new ≡ firsts nat_eq old ws → put (placed old) a ≡ put (placed new) a
first_keeps start old new a ws e f = put-agree (placed old) (placed new) a (keeps start (variables a) ws old new e f)

-- ===== a clause

abbrev with_parts : Clause → List (Tree ℕ) → List Goal → Clause
with_parts c head body = record { pred = c.pred; head = head; body = body; vars = c.vars }

pub clause_numbered : (c : Clause) (head : List (Tree ℕ)) (body : List Goal) (old new : List ℕ)
    → old ≡ firsts nat_eq [] (variables_in c.head) → head ≡ map (put (placed old)) c.head → new ≡ firsts nat_eq old (flat_map goal_variables c.body) → body ≡ map (put_goal (placed new)) c.body
    → with_parts c head body ≡ renumbered c
clause_numbered c head body old new e g f h =
    let rest = flat_map goal_variables c.body in
    ap (λ ts. with_parts c ts body) (terms_keep [] old new c.head head e g rest f)
    ∙ ap (λ gs. with_parts c (map (put (placed new)) c.head) gs) h
    ∙ ap (λ vs. put_clause (placed vs) c) (seen_both [] (variables_in c.head) rest old new e f)
