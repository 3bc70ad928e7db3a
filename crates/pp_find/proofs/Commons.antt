-- Rows that stand for what they have in common: one more, one that is covered, the last two joined.
use Rattle.std.proofs.Common.{◌≡◌, ℕ, zero, suc, ◌<◌, ◌≤◌, ◌+◌, ◌-◌, arith, List, [], ◌∷◌, ◌++◌, length, get_or, take, set, Option, Some, None, refl, ap, sym, ◌∙◌, subst, inl}
use Rattle.std.proofs.Math.Logic.{∥∥₁_elim, ∥∥₁_map, ∥∥₁_prop}
use Rattle.std.proofs.lemmas.List.{take_more, take_all, set_at, length-take-le, append_assoc}
use Rattle.std.specs.Coded.{Coded-set, coded_option, coded_ℕ}
use Rattle.pp_algebra.specs.Terms.{count}
use Rattle.pp_algebra.specs.Rows.{Row, pattern_of}
use Rattle.pp_algebra.specs.Covers.{RowCovers}
use Rattle.pp_algebra.specs.Least.{least_row}
use Rattle.pp_algebra.proofs.Law.{least_row-covers}
use Rattle.pp_algebra.proofs.Order.{covers_itself}
use Rattle.pp_row.specs.Codes.{row_code}
use Rattle.pp_sld.specs.Verdicts.{most}
use Rattle.pp_sld.specs.Findings.{Finding, finds_most, finds_unique, finds_consistent, join_option}
use Rattle.pp_sld.specs.Lattice.{IsUnder, UnderIfSome, CoversIfSome, Fits}
use Rattle.pp_sld.proofs.Joining.{right-covered, through, join-turned, join-grouped, join-fits}
use Rattle.pp_find.specs.Common.{common, LieUnder, AreUnder, AreUnderOne}
use Rattle.pp_find.proofs.Taking.{known, width}

-- ===== options, as findings of which both parts are the same

itself : (o : Option Row) → CoversIfSome o o
itself None = tt
itself (Some r) = covers_itself (pattern_of r)

abbrev answers : Finding → Option Row
answers (finds_most g h) = g
answers (finds_unique s b) = None
answers (finds_consistent a b) = None

module _ (call : Row) where
  twice : (o : Option Row) → UnderIfSome call o → Fits most call (finds_most o o)
  twice o u = (u, u, itself o)

  pub grouped : (o p w : Option Row) → UnderIfSome call o → UnderIfSome call p → UnderIfSome call w → join_option (join_option o p) w ≡ join_option o (join_option p w)
  grouped o p w uo up uw = ap answers (join-grouped most call (finds_most o o) (finds_most p p) (finds_most w w) (twice o uo) (twice p up) (twice w uw))

  pub turned : (o p : Option Row) → UnderIfSome call o → UnderIfSome call p → join_option o p ≡ join_option p o
  turned o p uo up = ap answers (join-turned most call (finds_most o o) (finds_most p p) (twice o uo) (twice p up))

  pub under : (o p : Option Row) → UnderIfSome call o → UnderIfSome call p → UnderIfSome call (join_option o p)
  under o p uo up = (join-fits most call (finds_most o o) (finds_most p p) (twice o uo) (twice p up)).0

  -- the last of three changes places with the middle one
  pub swapped : (o p w : Option Row) → UnderIfSome call o → UnderIfSome call p → UnderIfSome call w → join_option (join_option o p) w ≡ join_option (join_option o w) p
  swapped o p w uo up uw = grouped o p w uo up uw ∙ ap (join_option o) (turned p w up uw) ∙ sym (grouped o w p uo uw up)

  -- ===== lists of rows

  pub common-under : (rs : List Row) → LieUnder call rs → UnderIfSome call (common rs)
  common-under [] h = tt
  common-under (r ∷ rs) h = under (Some r) (common rs) h.0 (common-under rs h.1)

  pub common-append : (xs ys : List Row) → LieUnder call xs → LieUnder call ys → common (xs ++ ys) ≡ join_option (common xs) (common ys)
  common-append [] ys h k = refl
  common-append (r ∷ xs) ys h k = ap (join_option (Some r)) (common-append xs ys h.1 k) ∙ sym (grouped (Some r) (common xs) (common ys) h.0 (common-under xs h.1) (common-under ys k))

  pub all-append : (xs ys : List Row) → LieUnder call xs → LieUnder call ys → LieUnder call (xs ++ ys)
  all-append [] ys h k = k
  all-append (r ∷ xs) ys h k = (h.0, all-append xs ys h.1 k)

  all-left : (xs ys : List Row) → LieUnder call (xs ++ ys) → LieUnder call xs
  all-left [] ys h = tt
  all-left (r ∷ xs) ys h = (h.0, all-left xs ys h.1)

  all-right : (xs ys : List Row) → LieUnder call (xs ++ ys) → LieUnder call ys
  all-right [] ys h = h
  all-right (r ∷ xs) ys h = all-right xs ys h.1

  pub all-at : (rs : List Row) (i : ℕ) (k : Row) → LieUnder call rs → i < length rs → k ≡ get_or rs i k → IsUnder call k
  all-at [] i k h l e = let x : ⊥ = omega arith in absurd x
  all-at (q ∷ rs) zero k h l e = subst (IsUnder call) (sym e) h.0
  all-at (q ∷ rs) (suc i) k h l e = all-at rs i k h.1 (omega arith) e

  -- ===== the last two are joined

  least-under : (a b : Row) → IsUnder call a → IsUnder call b → IsUnder call (least_row a (b ∷ []))
  least-under a b u w = under (Some a) (Some b) u w

  pub last-common : (p : List Row) (a b : Row) → LieUnder call (p ++ a ∷ b ∷ []) → common (p ++ least_row a (b ∷ []) ∷ []) ≡ common (p ++ a ∷ b ∷ [])
  last-common p a b h =
      let ends = all-right p (a ∷ b ∷ []) h in
      let start = all-left p (a ∷ b ∷ []) h in
      common-append p (least_row a (b ∷ []) ∷ []) start (least-under a b ends.0 ends.1.0, tt) ∙ sym (common-append p (a ∷ b ∷ []) start ends)

  pub last-under : (p : List Row) (a b : Row) → LieUnder call (p ++ a ∷ b ∷ []) → LieUnder call (p ++ least_row a (b ∷ []) ∷ [])
  last-under p a b h =
      let ends = all-right p (a ∷ b ∷ []) h in
      all-append p (least_row a (b ∷ []) ∷ []) (all-left p (a ∷ b ∷ []) h) (least-under a b ends.0 ends.1.0, tt)

  -- ===== a row that one of them covers

  above-left : (q : Row) (o : Option Row) (r : Row) → RowCovers q r → CoversIfSome (join_option (Some q) o) (Some r)
  above-left q None r c = c
  above-left q (Some g) r c = through (least_row q (g ∷ [])) q r (least_row-covers q (g ∷ []) q (inl refl) refl) c

  above-right : (q : Row) (o : Option Row) (r : Row) → IsUnder call q → UnderIfSome call o → CoversIfSome o (Some r) → CoversIfSome (join_option (Some q) o) (Some r)
  above-right q None r u w c = absurd c
  above-right q (Some g) r u w c = through (least_row q (g ∷ [])) g r (right-covered call q g u w) c

  pub covered-at : (rs : List Row) (i : ℕ) (k r : Row) → LieUnder call rs → i < length rs → k ≡ get_or rs i k → RowCovers k r → CoversIfSome (common rs) (Some r)
  covered-at [] i k r h l e c = let x : ⊥ = omega arith in absurd x
  covered-at (q ∷ rs) zero k r h l e c = above-left q (common rs) r (subst (λ z. RowCovers z r) e c)
  covered-at (q ∷ rs) (suc i) k r h l e c = above-right q (common rs) r h.0 (common-under rs h.1) (covered-at rs i k r h.1 (omega arith) e c)

-- ===== under some call

pub still-under : (xs ys : List Row) → ((call : Row) → AreUnder call xs → AreUnder call ys) → AreUnderOne xs → AreUnderOne ys
still-under xs ys f x = ∥∥₁_elim x ∥∥₁_prop (λ u. ∥∥₁_map (f u.0 ∣ u.1 ∣₁) (λ h. (u.0, h)))

pub rest-under : (r : Row) (rs : List Row) → AreUnderOne (r ∷ rs) → AreUnderOne rs
rest-under r rs x = ∥∥₁_map x (λ u. (u.0, u.1.1))

pub rest-stays : (call r : Row) (xs ys : List Row) → ((call : Row) → AreUnder call xs → AreUnder call ys) → AreUnder call (r ∷ xs) → AreUnder call (r ∷ ys)
rest-stays call r xs ys f x = ∥∥₁_elim x ∥∥₁_prop (λ h. ∥∥₁_map (f call ∣ h.1 ∣₁) (λ j. (h.0, j)))

pub rest-still : (r : Row) (xs ys : List Row) → ((call : Row) → AreUnder call xs → AreUnder call ys) → AreUnderOne (r ∷ xs) → AreUnderOne (r ∷ ys)
rest-still r xs ys f x = ∥∥₁_elim x ∥∥₁_prop (λ u. ∥∥₁_map (f u.0 ∣ u.1.1 ∣₁) (λ h. (u.0, (u.1.0, h))))

pub tail-under : (call r : Row) (xs : List Row) → AreUnder call (r ∷ xs) → AreUnder call xs
tail-under call r xs x = ∥∥₁_map x (λ h. h.1)

pub covered : (rs : List Row) (i : ℕ) (k r : Row) → AreUnderOne (r ∷ rs) → i < length rs → k ≡ get_or rs i k → RowCovers k r → common rs ≡ join_option (common rs) (Some r)
covered rs i k r x l e c = ∥∥₁_elim x (Coded-set (coded_option row_code) _ _) (λ u. known u.0 (common rs) r ∣ common-under u.0 rs u.1.1 ∣₁ (covered-at u.0 rs i k r u.1.1 l e c))

pub width-at : (rs : List Row) (i : ℕ) (k r : Row) → AreUnderOne (r ∷ rs) → i < length rs → k ≡ get_or rs i k → count k.columns ≡ count r.columns
width-at rs i k r x l e = ∥∥₁_elim x (Coded-set coded_ℕ _ _) (λ u. width u.0 k r (all-at u.0 rs i k u.1.1 l e).0 u.1.0.0)

pub widths-at : (rs : List Row) (i j : ℕ) (a b : Row) → AreUnderOne rs → i < length rs → j < length rs → a ≡ get_or rs i a → b ≡ get_or rs j b → count a.columns ≡ count b.columns
widths-at rs i j a b x l m e f = ∥∥₁_elim x (Coded-set coded_ℕ _ _) (λ u. width u.0 a b (all-at u.0 rs i a u.1 l e).0 (all-at u.0 rs j b u.1 m f).0)

pub common-push : (rs : List Row) (r : Row) → AreUnderOne (r ∷ rs) → common (rs ++ r ∷ []) ≡ join_option (common rs) (Some r)
common-push rs r x = ∥∥₁_elim x (Coded-set (coded_option row_code) _ _) (λ u. common-append u.0 rs (r ∷ []) u.1.1 (u.1.0, tt))

pub under-push : (call : Row) (rs : List Row) (r : Row) → AreUnder call (r ∷ rs) → AreUnder call (rs ++ r ∷ [])
under-push call rs r x = ∥∥₁_map x (λ h. all-append call rs (r ∷ []) h.1 (h.0, tt))

-- ===== where the last two stand

pub two-last : (xs : List Row) (n : ℕ) (a b : Row) → length xs ≡ n + 2 → a ≡ get_or xs n a → b ≡ get_or xs (n + 1) b → xs ≡ take n xs ++ a ∷ b ∷ []
two-last xs n a b l e f =
    let shorter : take (n + 1) xs ≡ take n xs ++ a ∷ [] = take_more xs n a (omega arith) ∙ ap (λ z. take n xs ++ z ∷ []) (sym e) in
    let all : take (n + 1 + 1) xs ≡ take (n + 1) xs ++ b ∷ [] = take_more xs (n + 1) b (omega arith) ∙ ap (λ z. take (n + 1) xs ++ z ∷ []) (sym f) in
    sym (take_all (n + 1 + 1) xs (omega arith)) ∙ all ∙ ap (λ z. z ++ b ∷ []) shorter ∙ append_assoc (take n xs) (a ∷ []) (b ∷ [])

pub one-last : (xs : List Row) (n : ℕ) (a v : Row) → length xs ≡ n + 2 → a ≡ get_or xs n a → set (take (n + 1) xs) n v ≡ take n xs ++ v ∷ []
one-last xs n a v l e =
    let shorter : take (n + 1) xs ≡ take n xs ++ a ∷ [] = take_more xs n a (omega arith) ∙ ap (λ z. take n xs ++ z ∷ []) (sym e) in
    ap (λ z. set z n v) shorter ∙ set_at (take n xs) a [] v n (length-take-le n xs (omega arith))

-- the rows, and those in which the last two are joined
pub joined-common : (xs : List Row) (n : ℕ) (a b v : Row) → AreUnderOne xs → length xs ≡ n + 2 → a ≡ get_or xs n a → b ≡ get_or xs (n + 1) b → v ≡ least_row a (b ∷ []) → common (set (take (n + 1) xs) n v) ≡ common xs
joined-common xs n a b v x l e f j =
    let whole = two-last xs n a b l e f in
    ap common (one-last xs n a v l e) ∙ ap (λ z. common (take n xs ++ z ∷ [])) j ∙ ∥∥₁_elim x (Coded-set (coded_option row_code) _ _) (λ u. last-common u.0 (take n xs) a b (subst (LieUnder u.0) whole u.1)) ∙ ap common (sym whole)

pub joined-under : (call : Row) (xs : List Row) (n : ℕ) (a b v : Row) → AreUnder call xs → length xs ≡ n + 2 → a ≡ get_or xs n a → b ≡ get_or xs (n + 1) b → v ≡ least_row a (b ∷ []) → AreUnder call (set (take (n + 1) xs) n v)
joined-under call xs n a b v x l e f j =
    let whole = two-last xs n a b l e f in
    ∥∥₁_map x (λ h. subst (LieUnder call) (sym (one-last xs n a v l e ∙ ap (λ z. take n xs ++ z ∷ []) j)) (last-under call (take n xs) a b (subst (LieUnder call) whole h)))

-- ===== one row alone

pub only-row : (xs : List Row) (k : Row) → length xs ≤ 1 → 0 < length xs → k ≡ get_or xs 0 k → xs ≡ k ∷ []
only-row [] k l m e = let x : ⊥ = omega arith in absurd x
only-row (q ∷ []) k l m e = ap (λ z. z ∷ []) (sym e)
only-row (q ∷ r ∷ rs) k l m e = let x : ⊥ = omega arith in absurd x

-- the same with the number of rows
module _ (xs : List Row) (m : ℕ) (a b v : Row) (two : 2 ≤ m) (many : m ≡ length xs) (first : a ≡ get_or xs (m - 1 - 1) a) (second : b ≡ get_or xs (m - 1) b) (both : v ≡ least_row a (b ∷ [])) where
  pub joined-same : AreUnderOne xs → common (set (take (m - 1) xs) (m - 1 - 1) v) ≡ common xs
  joined-same x =
      let e : m - 1 - 1 + 1 ≡ m - 1 = omega arith in
      subst (λ z. common (set (take z xs) (m - 1 - 1) v) ≡ common xs) e (joined-common xs (m - 1 - 1) a b v x (omega arith) first (subst (λ z. b ≡ get_or xs z b) (sym e) second) both)

  pub joined-stay : (call : Row) → AreUnder call xs → AreUnder call (set (take (m - 1) xs) (m - 1 - 1) v)
  joined-stay call x =
      let e : m - 1 - 1 + 1 ≡ m - 1 = omega arith in
      subst (λ z. AreUnder call (set (take z xs) (m - 1 - 1) v)) e (joined-under call xs (m - 1 - 1) a b v x (omega arith) first (subst (λ z. b ≡ get_or xs z b) (sym e) second) both)
