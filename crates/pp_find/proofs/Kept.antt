-- What is kept of leaves: rows that bound the answers, and one row more.
use Rattle.std.proofs.Common.{◌≡◌, Bool, true, false, List, [], ◌∷◌, Option, Some, None, refl, ap, sym, ◌∙◌, subst}
use Rattle.std.proofs.Math.Logic.{∥∥₁_elim, ∥∥₁_map, ∥∥₁_prop}
use Rattle.std.specs.Coded.{Coded-set, coded_option, coded_ℕ, coded_bool}
use Rattle.std.specs.Option.{IfSome}
use Rattle.pp_algebra.specs.Terms.{count}
use Rattle.pp_algebra.specs.Rows.{Row, IsCanonical}
use Rattle.pp_algebra.specs.Canon.{same_row}
use Rattle.pp_algebra.specs.Covers.{RowCovers}
use Rattle.pp_algebra.proofs.Law.{count-covers}
use Rattle.pp_algebra.proofs.SameRow.{same_row-sound}
use Rattle.pp_row.specs.Codes.{row_code}
use Rattle.pp_sld.specs.Findings.{finds_most, join_option, settled}
use Rattle.pp_sld.specs.Lattice.{IsUnder, UnderIfSome, CoversIfSome}
use Rattle.pp_sld.proofs.Joining.{covers-two}
use Rattle.pp_find.specs.Common.{common, AreUnder, AreUnderOne, IsBound, Keeps}
use Rattle.pp_find.specs.Meanings.{AreAlike}
use Rattle.pp_find.proofs.Alike.{alike}
use Rattle.pp_find.proofs.Commons.{common-under, under, grouped, swapped}

module _ (call : Row) where
  -- where there is a bound, it isn't settled
  apart : (g w : Row) (b : Bool) → same_row g call ≡ b → RowCovers w g → (RowCovers w call → ⊥) → b ≡ false
  apart g w true e c other = absurd (other (subst (RowCovers w) (same_row-sound g call e) c))
  apart g w false e c other = refl

  unsettled : (g : Option Row) (w : Row) → IsBound call g w → settled call (finds_most g None) ≡ false
  unsettled None w b = refl
  unsettled (Some g) w b = apart g w (same_row g call) refl b.covers b.apart

  -- a bound that covers one row more
  bound-more : (g : Option Row) (r w : Row) → IsBound call g w → RowCovers w r → IsBound call (join_option g (Some r)) w
  bound-more None r w b c = record { width = b.width; covers = c; apart = b.apart }
  bound-more (Some g) r w b c = record { width = b.width; covers = covers-two w g r b.covers c; apart = b.apart }

  some-more : (o g : Option Row) (r : Row) → IfSome o (IsBound call g) → CoversIfSome o (Some r) → IfSome o (IsBound call (join_option g (Some r)))
  some-more None g r b c = absurd c
  some-more (Some w) g r b c = bound-more g r w b c

  some-told : (o g : Option Row) (r : Row) → IfSome o (IsBound call g) → CoversIfSome o (Some r) → settled call (finds_most g None) ≡ settled call (finds_most (join_option g (Some r)) None)
  some-told None g r b c = absurd c
  some-told (Some w) g r b c = unsettled g w b ∙ sym (unsettled (join_option g (Some r)) w (bound-more g r w b c))

  -- ===== what is kept, with other rows

  -- rows that have the same in common in place of the answers, and others in place of the loose ends
  pub keeps-same : (xs ys zs ws : List Row) (o : Option Row) (s : Bool) → ∥ Keeps call xs zs o s ∥₁ → AreUnder call ys → common ys ≡ common xs → AreUnder call ws → ∥ Keeps call ys ws o s ∥₁
  keeps-same xs ys zs ws o s x u e v = ∥∥₁_elim x ∥∥₁_prop (λ k. ∥∥₁_elim u ∥∥₁_prop (λ h. ∥∥₁_map v (λ j. record {
    answers_under = h;
    loose_under = j;
    bounds = subst (λ g. IfSome o (IsBound call g)) (sym e) k.bounds;
    told = k.told ∙ ap (λ g. settled call (finds_most g None)) (sym e);
  })))

  -- one answer more that the bound covers
  pub keeps-bounded : (xs ys zs : List Row) (o : Option Row) (s : Bool) (r : Row) → ∥ Keeps call xs zs o s ∥₁ → AreUnder call ys → common ys ≡ join_option (common xs) (Some r) → CoversIfSome o (Some r) → ∥ Keeps call ys zs o s ∥₁
  keeps-bounded xs ys zs o s r x u e c = ∥∥₁_elim x ∥∥₁_prop (λ k. ∥∥₁_map u (λ h. record {
    answers_under = h;
    loose_under = k.loose_under;
    bounds = subst (λ g. IfSome o (IsBound call g)) (sym e) (some-more o (common xs) r k.bounds c);
    told = k.told ∙ some-told o (common xs) r k.bounds c ∙ ap (λ g. settled call (finds_most g None)) (sym e);
  }))

  whole-under : (w : Row) (o : Option Row) → Some w ≡ o → UnderIfSome call o → IsUnder call w
  whole-under w o e u = subst (UnderIfSome call) (sym e) u

  -- one answer more, with which all are joined
  pub keeps-whole : (xs zs : List Row) (o p : Option Row) (s t : Bool) (r w : Row) → ∥ Keeps call xs zs o s ∥₁ → IsUnder call r → Some w ≡ join_option (common xs) (Some r) → IfSome p (IsBound call (Some w)) → t ≡ same_row w call → ∥ Keeps call (w ∷ []) zs p t ∥₁
  keeps-whole xs zs o p s t r w x u e b i = ∥∥₁_map x (λ k. record {
    answers_under = (whole-under w (join_option (common xs) (Some r)) e (under call (common xs) (Some r) (common-under call xs k.answers_under) u), tt);
    loose_under = k.loose_under;
    bounds = b;
    told = i;
  })

  -- all that are joined are as wide as the call
  pub whole-width : (xs zs : List Row) (o : Option Row) (s : Bool) (r w : Row) → ∥ Keeps call xs zs o s ∥₁ → IsUnder call r → Some w ≡ join_option (common xs) (Some r) → count w.columns ≡ count call.columns
  whole-width xs zs o s r w x u e = ∥∥₁_elim x (Coded-set coded_ℕ _ _) (λ k. sym (count-covers call w (whole-under w (join_option (common xs) (Some r)) e (under call (common xs) (Some r) (common-under call xs k.answers_under) u)).0))

  pub answers-under : (xs zs : List Row) (o : Option Row) (s : Bool) → ∥ Keeps call xs zs o s ∥₁ → AreUnder call xs
  answers-under xs zs o s x = ∥∥₁_map x (λ k. k.answers_under)

  pub loose-under : (xs zs : List Row) (o : Option Row) (s : Bool) → ∥ Keeps call xs zs o s ∥₁ → AreUnder call zs
  loose-under xs zs o s x = ∥∥₁_map x (λ k. k.loose_under)

  -- as the functions of rows ask for it
  pub some-under : (xs : List Row) → AreUnder call xs → AreUnderOne xs
  some-under xs x = ∥∥₁_map x (λ h. (call, h))

  pub more-under : (xs : List Row) (r : Row) → AreUnder call xs → RowCovers call r → IsCanonical r → AreUnder call (r ∷ xs)
  more-under xs r x u c = ∥∥₁_map x (λ h. ((u, c), h))

  -- the bound is as wide as the rows under the call
  some-width : (o : Option Row) (g : Option Row) (w : Row) → o ≡ Some w → IfSome o (IsBound call g) → count w.columns ≡ count call.columns
  some-width o g w e b = (subst (λ z. IfSome z (IsBound call g)) e b).width

  pub bound-width : (xs zs : List Row) (o : Option Row) (s : Bool) (w r : Row) → ∥ Keeps call xs zs o s ∥₁ → o ≡ Some w → RowCovers call r → count w.columns ≡ count r.columns
  bound-width xs zs o s w r x e u = ∥∥₁_elim x (Coded-set coded_ℕ _ _) (λ k. some-width o (common xs) w e k.bounds ∙ count-covers call r u)

  -- what the answers and the loose ends have in common are rows of one width
  pub both-alike : (xs zs : List Row) (o : Option Row) (s : Bool) (g h : Option Row) → ∥ Keeps call xs zs o s ∥₁ → g ≡ common xs → h ≡ common zs → AreAlike g h
  both-alike xs zs o s g h x e f = alike call g h (∥∥₁_map x (λ k. subst (UnderIfSome call) (sym e) (common-under call xs k.answers_under))) (∥∥₁_map x (λ k. subst (UnderIfSome call) (sym f) (common-under call zs k.loose_under)))

  -- ===== one row more, in what both have in common

  pub answer-more : (xs ys zs : List Row) (r : Row) → AreUnder call xs → AreUnder call zs → IsUnder call r → common ys ≡ join_option (common xs) (Some r) → join_option (common ys) (common zs) ≡ join_option (join_option (common xs) (common zs)) (Some r)
  answer-more xs ys zs r x z u e = ∥∥₁_elim x (Coded-set (coded_option row_code) _ _) (λ h. ∥∥₁_elim z (Coded-set (coded_option row_code) _ _) (λ k.
      ap (λ g. join_option g (common zs)) e ∙ swapped call (common xs) (Some r) (common zs) (common-under call xs h) u (common-under call zs k)))

  pub loose-more : (xs zs ws : List Row) (r : Row) → AreUnder call xs → AreUnder call zs → IsUnder call r → common ws ≡ join_option (common zs) (Some r) → join_option (common xs) (common ws) ≡ join_option (join_option (common xs) (common zs)) (Some r)
  loose-more xs zs ws r x z u e = ∥∥₁_elim x (Coded-set (coded_option row_code) _ _) (λ h. ∥∥₁_elim z (Coded-set (coded_option row_code) _ _) (λ k.
      ap (join_option (common xs)) e ∙ sym (grouped call (common xs) (common zs) (Some r) (common-under call xs h) (common-under call zs k) u)))

  -- a loose end that an answer covers
  pub loose-known : (xs zs : List Row) (r : Row) → AreUnder call xs → AreUnder call zs → IsUnder call r → common xs ≡ join_option (common xs) (Some r) → join_option (common xs) (common zs) ≡ join_option (join_option (common xs) (common zs)) (Some r)
  loose-known xs zs r x z u e = answer-more xs xs zs r x z u e

  -- ===== whether it is settled

  told-of : (g h : Option Row) → settled call (finds_most g None) ≡ settled call (finds_most g h)
  told-of None h = refl
  told-of (Some g) h = refl

  pub kept-told : (xs zs : List Row) (o h : Option Row) (s : Bool) → ∥ Keeps call xs zs o s ∥₁ → s ≡ settled call (finds_most (common xs) h)
  kept-told xs zs o h s x = ∥∥₁_elim x (Coded-set coded_bool _ _) (λ k. k.told ∙ told-of (common xs) h)
