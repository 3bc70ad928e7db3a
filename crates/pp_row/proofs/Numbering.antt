-- Numbering by first occurrence, one column after another.
use Rattle.std.proofs.Common.{◌≡◌, ℕ, zero, suc, ℤ, Option, Bool, true, false, List, [], ◌∷◌, ◌++◌, map, refl, ap, sym, ◌∙◌, append_assoc, append-nil, subst}
use Rattle.std.proofs.lemmas.List.Elements.{All-nil, All-cons, All-head, All-tail}
use Rattle.std.specs.Prelude.{cond, ◌||◌, nat_eq}
use Rattle.pp_algebra.specs.Terms.{Tree, variable, put, put_all, variables, variables_all}
use Rattle.pp_algebra.specs.Rows.{Domain, IsCanonical, IsRow, IsWide, AreWide, domain_at}
use Rattle.pp_algebra.specs.Canon.{has, place, firsts, canon}
use Rattle.pp_algebra.proofs.CanonLemmas.{nat_eq-IsSame, has-all, canon-IsCanonical, place-front, firsts-more}
use Rattle.pp_algebra.proofs.Antisym.{put_all-agree}
use Rattle.pp_row.specs.Columns.{trees_of, sets_of, pattern_by, row_by}
use Rattle.pp_row.proofs.ColumnLists.{put-trees_of, variables-push}
use Rattle.pp_algebra.proofs.WideLeast.{wide_at}

module _ {V : Type 0} (same : V → V → Bool) where
  pub place_stays : (seen vs : List V) (v : V) → has same seen v ≡ true → place same (firsts same seen vs) v ≡ place same seen v
  place_stays seen vs v h = let r = firsts-more same seen vs in rw r.1 (place-front same seen r.0 v h)

  pub firsts-append : (seen vs ws : List V) → firsts same seen (vs ++ ws) ≡ firsts same (firsts same seen vs) ws
  firsts-append seen [] ws = refl
  firsts-append seen (v ∷ vs) ws = elim (has same seen v) as (λ b. cond b (firsts same seen (vs ++ ws)) (firsts same (seen ++ v ∷ []) (vs ++ ws)) ≡ firsts same (cond b (firsts same seen vs) (firsts same (seen ++ v ∷ []) vs)) ws) [
    | true ↦ firsts-append seen vs ws
    | false ↦ firsts-append (seen ++ v ∷ []) vs ws
  ]

  -- the place of one that was taken in
  pub place-push : (vs : List V) (v : V) → same v v ≡ true → place same (vs ++ v ∷ []) v ≡ place same vs v
  place-push [] v h = rw h refl
  place-push (x ∷ vs) v h = ap (λ k. cond (same x v) 0 (suc k)) (place-push vs v h)

  pub place_taken : (vs : List V) (v : V) → same v v ≡ true → place same (firsts same vs (v ∷ [])) v ≡ place same vs v
  place_taken vs v h = elim (has same vs v) as (λ b. place same (cond b vs (vs ++ v ∷ [])) v ≡ place same vs v) [ true ↦ refl | false ↦ place-push vs v h ]

-- each variable is named by its place
abbrev pub placed : List ℕ → ℕ → Tree ℕ
placed names v = variable (place nat_eq names v)

abbrev pub names_of : List (Tree ℕ) → List ℕ
names_of ts = firsts nat_eq [] (variables_all (trees_of ts))

pub names_push : (ts : List (Tree ℕ)) (t : Tree ℕ) → names_of (ts ++ t ∷ []) ≡ firsts nat_eq (names_of ts) (variables t)
names_push ts t = ap (firsts nat_eq []) (variables-push ts t) ∙ firsts-append nat_eq [] (variables_all (trees_of ts)) (variables t)

trees_agree : (f g : ℕ → Tree ℕ) (ts : List (Tree ℕ)) → put_all f (trees_of ts) ≡ put_all g (trees_of ts) → map (put f) ts ≡ map (put g) ts
trees_agree f g [] e = refl
trees_agree f g (t ∷ ts) e =
    let h : put f t ≡ put g t = cc in
    rw (h, trees_agree f g ts (cc)) refl

map_push : {A B : Type 0} (f : A → B) (xs : List A) (x : A) → map f (xs ++ x ∷ []) ≡ map f xs ++ f x ∷ []
map_push f [] x = refl
map_push f (y ∷ xs) x = ap (λ zs. f y ∷ zs) (map_push f xs x)

-- one more column: those before keep their names
pub columns_push : (ts out : List (Tree ℕ)) (t u : Tree ℕ) (old new : List ℕ) → old ≡ names_of ts → out ≡ map (put (placed old)) ts → new ≡ firsts nat_eq old (variables t) → u ≡ put (placed new) t → out ++ u ∷ [] ≡ map (put (placed new)) (ts ++ t ∷ [])
columns_push ts out t u old new e f g h =
    let a : put_all (placed new) (trees_of ts) ≡ put_all (placed old) (trees_of ts) =
    put_all-agree (placed new) (placed old) (trees_of ts) (λ v i. ap variable (ap (λ ns. place nat_eq ns v) g ∙ place_stays nat_eq old (variables t) v (ap (λ ns. has nat_eq ns v) e ∙ has-all nat_eq nat_eq-IsSame [] (variables_all (trees_of ts)) v i))) in
    ap (λ us. us ++ u ∷ []) (f ∙ sym (trees_agree (placed new) (placed old) ts a)) ∙ ap (λ x. map (put (placed new)) ts ++ x ∷ []) h ∙ sym (map_push (put (placed new)) ts t)

are_wide : (ds : List (Option Domain)) (vs : List ℕ) → AreWide ds → AreWide (map (domain_at ds) vs)
are_wide ds [] w = All-nil IsWide
are_wide ds (v ∷ vs) w = All-cons IsWide (domain_at ds v) (map (domain_at ds) vs) (wide_at ds v w) (are_wide ds vs w)

-- columns that are numbered, with the domains of their variables
module _ (ts out : List (Tree ℕ)) (names : List ℕ) (ds es : List (Option (List (ℤ × ℤ)))) (e : names ≡ names_of ts) (f : out ≡ map (put (placed names)) ts) (d : sets_of es ≡ map (domain_at (sets_of ds)) names) where
  pub canon_now : row_by out es ≡ canon nat_eq (pattern_by ts ds)
  canon_now =
      let c : trees_of out ≡ put_all (placed (names_of ts)) (trees_of ts) = ap trees_of f ∙ sym (put-trees_of (placed names) ts) ∙ ap (λ ns. put_all (placed ns) (trees_of ts)) e in
      let g : sets_of es ≡ map (domain_at (sets_of ds)) (names_of ts) = d ∙ ap (map (domain_at (sets_of ds))) e in
      rw (c, g) refl

  pub canon_is_row : AreWide (sets_of ds) → IsRow (row_by out es)
  canon_is_row w = record {
    canonical = subst IsCanonical (sym canon_now) (canon-IsCanonical nat_eq nat_eq-IsSame (pattern_by ts ds));
    wide = subst AreWide (sym d) (are_wide (sets_of ds) names w);
  }
