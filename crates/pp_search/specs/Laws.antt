-- The laws of the works of a goal's search.
use Rattle.std.proofs.Common.{◌≡◌, ℕ, Bool, true, false, ◌&&◌, ◌||◌, List, [], ◌∷◌, Option, Some, None, ◌⊎◌, inl, inr, refl, ap, sym, ◌∙◌, subst, ltb-true, lt-ltb}
use Rattle.std.specs.Prelude.{nat_eq, nat_lt}
use Rattle.pp_algebra.specs.Rows.{Row}
use Rattle.pp_algebra.specs.Numbered.{call}
use Rattle.pp_algebra.proofs.CanonLemmas.{nat_eq-IsSame}
use Rattle.pp_sld.specs.Goals.{Program, Shape}
use Rattle.pp_sld.specs.Leaves.{root}
use Rattle.pp_sld.specs.Verdicts.{Mode}
use Rattle.pp_sld.specs.Findings.{finding_of}
use Rattle.pp_sld.specs.Lattice.{Fits}
use Rattle.pp_sld.specs.Works.{Work, spent, at, places, worth, ComesAfter, IsLater}
use Rattle.pp_sld.proofs.Trees.{tree, tree-IsSearch}
use Rattle.pp_sld.proofs.Walks as walks
use Rattle.pp_sld.proofs.LaterWorks.{none_is_later, later_through}
use Rattle.pp_path.specs.declared.levels.Level.{Level}
use Rattle.pp_path.specs.Works.{work_by}
use Rattle.pp_find.specs.Meanings.{FitsIn}
use Rattle.pp_find.specs.Laws.{there}
use Rattle.pp_search.specs.Worths.{worth_of}
use Rattle.pp_search.specs.Orders.{same_levels, are_same, comes_after, is_later}

-- ===== a work's finding is one of the goal's

module _ (clauses : Program) (shape : Shape) (face : Row) (depth : ℕ) (m : Mode) where
  pub worth_fits : (c : Row) → c ≡ call face → (w : Option (List Level))
      → ∥ FitsIn m c (worth_of clauses shape face depth m w) ∥₁
  worth_fits c e w =
      let t = tree clauses (root shape face depth) in
      let f = finding_of m (worth (work_by w) t) in
      let h : Fits m (call face) f = walks.worth_fits clauses shape face depth t
      (tree-IsSearch clauses (root shape face depth)) m (work_by w) in
      ∣ subst (Fits m c) (sym (there f)) (subst (λ x. Fits m x f) (sym e) h) ∣₁

-- ===== tests of two

abbrev IsYes : Bool → Type 0
IsYes true = Unit {0}
IsYes false = ⊥

pub no : false ≡ true → ⊥
no e = subst IsYes (sym e) tt

pub no_true : (b : Bool) → (b ≡ true → ⊥) → b ≡ false
no_true true h = absurd (h refl)
no_true false h = refl

both : (a b : Bool) → a && b ≡ true → (a ≡ true) × (b ≡ true)
both true b e = (refl, e)
both false b e = absurd (no e)

either : (a b : Bool) → a || b ≡ true → (a ≡ true) ⊎ (b ≡ true)
either true b e = inl refl
either false b e = inr e

or_true : (a b : Bool) → b ≡ true → a || b ≡ true
or_true true b e = refl
or_true false b e = e

-- ===== the same works

levels_same : (ls : List Level) → same_levels ls ls ≡ true
levels_same [] = refl
levels_same (l ∷ ls) = ap (λ b. (b && nat_eq l.end l.end) && same_levels ls ls) (nat_eq-IsSame.itself l.now) ∙ ap
    (λ b. b && same_levels ls ls) (nat_eq-IsSame.itself l.end) ∙ levels_same ls

levels_one : (ls ks : List Level) → same_levels ls ks ≡ true → ls ≡ ks
levels_one [] [] e = refl
levels_one [] (k ∷ ks) e = absurd (no e)
levels_one (l ∷ ls) [] e = absurd (no e)
levels_one (l ∷ ls) (k ∷ ks) e =
    let h = both (nat_eq l.now k.now && nat_eq l.end k.end) (same_levels ls ks) e in
    let i = both (nat_eq l.now k.now) (nat_eq l.end k.end) h.0 in
    ap (λ n. record { now = n; end = l.end } ∷ ls) (nat_eq-IsSame.is l.now k.now i.0) ∙ ap
    (λ n. record { now = k.now; end = n } ∷ ls) (nat_eq-IsSame.is l.end k.end i.1) ∙ ap (λ x. k ∷ x)
    (levels_one ls ks h.1)

pub same_itself : (w : Option (List Level)) → are_same w w ≡ true
same_itself None = refl
same_itself (Some ls) = levels_same ls

pub same_one : (w v : Option (List Level)) → are_same w v ≡ true → w ≡ v
same_one None None e = refl
same_one None (Some ks) e = absurd (no e)
same_one (Some ls) None e = absurd (no e)
same_one (Some ls) (Some ks) e = ap Some (levels_one ls ks e)

pub same_worths : (clauses : Program) (shape : Shape) (face : Row) (depth : ℕ) (m : Mode) (w v : Option (List Level))
    → are_same w v ≡ true → worth_of clauses shape face depth m w ≡ worth_of clauses shape face depth m v
same_worths clauses shape face depth m w v e = ap (worth_of clauses shape face depth m) (same_one w v e)

-- ===== the order

after_by : (j k : ℕ) (js ks : List ℕ) → (comes_after js ks ≡ true → ComesAfter js ks)
    → (nat_lt k j ≡ true) ⊎ (nat_eq j k && comes_after js ks ≡ true) → ComesAfter (j ∷ js) (k ∷ ks)
after_by j k js ks more (inl h) = inl (ltb-true k j h)
after_by j k js ks more (inr h) = let i = both (nat_eq j k) (comes_after js ks) h in inr
    (nat_eq-IsSame.is j k i.0, more i.1)

after_is : (js ks : List ℕ) → comes_after js ks ≡ true → ComesAfter js ks
after_is [] ks e = absurd (no e)
after_is (j ∷ js) [] e = tt
after_is (j ∷ js) (k ∷ ks) e = after_by j k js ks (after_is js ks)
    (either (nat_lt k j) (nat_eq j k && comes_after js ks) e)

is_after : (js ks : List ℕ) → ComesAfter js ks → comes_after js ks ≡ true
is_after [] ks h = absurd h
is_after (j ∷ js) [] h = refl
is_after (j ∷ js) (k ∷ ks) (inl h) = ap (λ b. b || (nat_eq j k && comes_after js ks)) (lt-ltb k j h)
is_after (j ∷ js) (k ∷ ks) (inr h) =
    or_true (nat_lt k j) (nat_eq j k && comes_after js ks)
    (ap (λ x. nat_eq j x && comes_after js ks) (sym h.0) ∙ ap (λ b. b && comes_after js ks) (nat_eq-IsSame.itself j)
    ∙ is_after js ks h.1)

pub later_is : (w v : Work) → is_later w v ≡ true → IsLater w v
later_is spent v e = absurd (no e)
later_is (at ls) spent e = absurd (no e)
later_is (at ls) (at ks) e = after_is (places ls) (places ks) e

pub is_later_too : (w v : Work) → IsLater w v → is_later w v ≡ true
is_later_too spent v h = absurd h
is_later_too (at ls) spent h = absurd h
is_later_too (at ls) (at ks) h = is_after (places ls) (places ks) h

pub none_later : (w : Work) → is_later w w ≡ false
none_later w = no_true (is_later w w) (λ e. none_is_later w (later_is w w e))

pub later_on : (u v w : Work) → is_later u v ≡ true → is_later v w ≡ true → is_later u w ≡ true
later_on u v w e f = is_later_too u w (later_through u v w (later_is u v e) (later_is v w f))
