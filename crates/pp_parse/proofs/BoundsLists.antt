-- Lists of bounds, read one after another.
use Rattle.std.proofs.Common.{◌≡◌, ℕ, ℤ, ◌+◌, ◌<◌, ◌≤◌, List, [], ◌∷◌, ◌++◌, length, drop, Some, None, refl, ap, sym, ◌∙◌, append_assoc, append-nil, arith}
use Rattle.std.specs.FinSet as set
use Rattle.pp_algebra.specs.Rows.{Domain}
use Rattle.pp_language.specs.declared.token.Kind.TheVariants.{OpenSquare, CloseSquare, Comma}
use Rattle.pp_language.specs.Phrases.{Part, term_part, mark}
use Rattle.pp_language.specs.Statements.{Bounds, SetPhrase, bracketed}
use Rattle.pp_language.specs.Meanings.{bounds_set, bounds_sets, set_by}
use Rattle.pp_language.specs.Fronts.{Front, front_as, mark_in, bounds_in, more_bounds_in, bounds_list_by, bounds_list_in, bracketed_by, set_in}
use Rattle.pp_parse.specs.Sets.{united}
use Rattle.pp_language.proofs.ItemRead.{mark_front}
use Rattle.pp_parse.proofs.Fronts.{next_place, more_behind_comma, bracketed_front, bracketed_list, no_bracketed_list}
use Rattle.pp_parse.proofs.Bounds.{mark_room}
use Rattle.pp_parse.proofs.Ranges.{united_more}

behind_close : (i : ℕ) (qs : List Part) → mark_in (drop i qs) ≡ Some CloseSquare → more_bounds_in (drop i qs) ≡ Some ([], drop (i + 1) qs)
behind_close i qs e = ap more_bounds_in (mark_front (drop i qs) CloseSquare e) ∙ ap (λ us. Some ([], us)) (sym (next_place i qs))

behind_comma : (i : ℕ) (qs : List Part) → mark_in (drop i qs) ≡ Some Comma → more_bounds_in (drop i qs) ≡ bounds_list_in (drop (i + 1) qs)
behind_comma i qs e = ap more_bounds_in (mark_front (drop i qs) Comma e) ∙ more_behind_comma (drop 1 (drop i qs)) ∙ ap bounds_list_in (sym (next_place i qs))

no_more : (ps : List Part) → (mark_in ps ≡ Some CloseSquare → ⊥) → (mark_in ps ≡ Some Comma → ⊥) → more_bounds_in ps ≡ None
no_more [] h g = refl
no_more (term_part p ∷ ps) h g = refl
no_more (mark CloseSquare ∷ ps) h g = absurd (h refl)
no_more (mark Comma ∷ ps) h g = absurd (g refl)
no_more (mark k ∷ ps) h g = refl

grouped : (bs : List Bounds) (b : Bounds) (r : Front (List Bounds)) → front_as (λ cs. bs ++ cs) (front_as (λ cs. b ∷ cs) r) ≡ front_as (λ cs. (bs ++ b ∷ []) ++ cs) r
grouped bs b None = refl
grouped bs b (Some r) = ap (λ cs. Some (cs, r.1)) (sym (append_assoc bs (b ∷ []) r.0))

-- bounds are read from place i up to place j, and these domains are theirs
pub record ReadTo (qs : List Part) (i j : ℕ) (ds : List (List (ℤ × ℤ))) : Type 0 where
  pub bounds : List Bounds
  pub read : bounds_list_in (drop i qs) ≡ front_as (λ bs. bounds ++ bs) (bounds_list_in (drop j qs))
  pub domains : united ds ≡ bounds_sets bounds
  pub ordered : i ≤ j

pub none_read : (qs : List Part) (i : ℕ) (ds : List (List (ℤ × ℤ))) → ds ≡ [] → ReadTo qs i i ds
none_read qs i ds e = record { bounds = []; read = same (bounds_list_in (drop i qs)); domains = ap united e; ordered = omega arith }
  where
    same : (r : Front (List Bounds)) → r ≡ front_as (λ bs. [] ++ bs) r
    same None = refl
    same (Some r) = refl

module _ (qs : List Part) (i j : ℕ) (ds : List (List (ℤ × ℤ))) (r : ReadTo qs i j ds) where
  pub not_read : bounds_in (drop j qs) ≡ None → bounds_list_in (drop i qs) ≡ None
  not_read e = r.read ∙ ap (λ f. front_as (λ bs. r.bounds ++ bs) (bounds_list_by f)) e

  module _ (b : Bounds) (n : ℕ) (later : j < n) (found : bounds_in (drop j qs) ≡ Some (b, drop n qs)) where
    reads : bounds_list_in (drop i qs) ≡ front_as (λ bs. (r.bounds ++ b ∷ []) ++ bs) (more_bounds_in (drop n qs))
    reads = r.read ∙ ap (λ f. front_as (λ bs. r.bounds ++ bs) (bounds_list_by f)) found ∙ grouped r.bounds b (more_bounds_in (drop n qs))

    pub not_closed : (mark_in (drop n qs) ≡ Some CloseSquare → ⊥) → (mark_in (drop n qs) ≡ Some Comma → ⊥) → bounds_list_in (drop i qs) ≡ None
    not_closed h g = reads ∙ ap (front_as (λ bs. (r.bounds ++ b ∷ []) ++ bs)) (no_more (drop n qs) h g)

    module _ (es : List (List (ℤ × ℤ))) (s : Domain) (more : united es ≡ set.union (united ds) s) (is : bounds_set b ≡ s) where
      pub all_read : mark_in (drop n qs) ≡ Some CloseSquare → (bs : List Bounds) × (bounds_list_in (drop i qs) ≡ Some (bs, drop (n + 1) qs)) × (united es ≡ bounds_sets bs) × (i < n + 1) × (n + 1 ≤ length qs)
      all_read e = (
        r.bounds ++ b ∷ [],
        reads ∙ ap (front_as (λ bs. (r.bounds ++ b ∷ []) ++ bs)) (behind_close n qs e) ∙ ap (λ bs. Some (bs, drop (n + 1) qs)) (append-nil (r.bounds ++ b ∷ [])),
        united_more ds es r.bounds b s r.domains more is,
        omega (arith, r.ordered, later),
        mark_room n qs CloseSquare e,
      )

      pub one_read : mark_in (drop n qs) ≡ Some Comma → ReadTo qs i (n + 1) es
      one_read e = record {
        bounds = r.bounds ++ b ∷ [];
        read = reads ∙ ap (front_as (λ bs. (r.bounds ++ b ∷ []) ++ bs)) (behind_comma n qs e);
        domains = united_more ds es r.bounds b s r.domains more is;
        ordered = omega (arith, r.ordered, later);
      }

-- ===== sets in brackets

module _ (qs : List Part) (i : ℕ) (opens : mark_in (drop i qs) ≡ Some OpenSquare) where
  behind_open : set_in (drop i qs) ≡ bracketed_by (bounds_in (drop (i + 1) qs))
  behind_open = bracketed_front (drop i qs) opens ∙ ap (λ ps. bracketed_by (bounds_in ps)) (sym (next_place i qs))

  pub no_set : bounds_list_in (drop (i + 1) qs) ≡ None → set_in (drop i qs) ≡ None
  no_set e = behind_open ∙ no_bracketed_list (drop (i + 1) qs) e

  pub bracketed_set : (bs : List Bounds) (n : ℕ) (s : Domain) → bounds_list_in (drop (i + 1) qs) ≡ Some (bs, drop n qs) → s ≡ bounds_sets bs → i + 1 < n → n ≤ length qs
      → (x : SetPhrase) × (set_in (drop i qs) ≡ Some (x, drop n qs)) × (s ≡ set_by x) × (i < n) × (n ≤ length qs)
  bracketed_set bs n s e f l m =
      let b = bracketed_list (drop (i + 1) qs) (drop n qs) bs e in
      (bracketed b.0 b.1, behind_open ∙ b.3, f ∙ ap bounds_sets b.2, omega arith, m)
