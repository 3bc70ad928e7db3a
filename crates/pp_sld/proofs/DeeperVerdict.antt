-- A verdict other than unfinished stays when answers and loose ends grow.
use Rattle.std.proofs.Common.{◌≡◌, Bool, true, false, cond, List, [], ◌∷◌, ◌++◌, Some, refl, ap, sym, ◌∙◌, subst, inl, inr}
use Rattle.pp_algebra.specs.Terms.{count}
use Rattle.pp_algebra.specs.Rows.{Row, IsCanonical, pattern_of}
use Rattle.pp_algebra.specs.Covers.{IsIn, RowCovers}
use Rattle.pp_algebra.specs.Canon.{same_row}
use Rattle.pp_algebra.specs.Least.{least_row}
use Rattle.pp_algebra.proofs.Order.{covers_through, IsIn-left, IsIn-right}
use Rattle.pp_algebra.proofs.Antisym.{covers_antisymmetric, IsIn-either}
use Rattle.pp_algebra.proofs.Law.{count-covers, least_row-IsCanonical, least_row-covers, least_row-least}
use Rattle.pp_algebra.proofs.SameRow.{same_row-sound, same_row-itself}
use Rattle.pp_sld.specs.Trace.{leaves}
use Rattle.pp_sld.specs.Leaves.{root, answer_rows, loose_rows}
use Rattle.pp_algebra.specs.Numbered.{call}
use Rattle.pp_sld.specs.Verdicts.{Mode, most, unique, consistent, same, nothing, unfinished, narrow, some_row, another, verdict, verdict_most, HasVerdict}
use Rattle.pp_sld.specs.Laws.{GrownKeepsVerdict, Deepens}
use Rattle.pp_sld.proofs.Verdicts.{another-none, none-another}
use Rattle.pp_sld.proofs.Trees.{tree, tree-IsSearch}
use Rattle.pp_sld.proofs.OneVerdict.{verdict_of_tree, verdict_once}
use Rattle.pp_sld.proofs.CallCovers.{leaves_under_call, call-IsCanonical}
use Rattle.pp_sld.specs.Growth.{CoveredByOne, Grown}
use Rattle.pp_sld.proofs.Deeper.{grows}

module _ (call : Row) (canonical : IsCanonical call) where
  -- rows that the call covers, and that have become others that it covers
  abbrev Widths : List Row → Type 0
  Widths rs = (r : Row) → IsIn r rs → RowCovers call r

  nothing_left : (B : List Row) → ((r : Row) → IsIn r B → ⊥) → B ≡ []
  nothing_left [] h = refl
  nothing_left (b ∷ B) h = absurd (h b (inl refl))

  no-answers : (B D : List Row) → Grown [] [] B D → (B ≡ []) × (D ≡ [])
  no-answers B D g = (
    nothing_left B (λ r i. elim (g.1 r i) [ inl f ↦ f | inr u ↦ u.1 ]),
    nothing_left D (λ r i. (g.2 r i).1),
  )

  fails : (m : Mode) (B D : List Row) → Grown [] [] B D → verdict m call B D ≡ verdict m call [] []
  fails m B D g = let e = no-answers B D g in ap (λ x. verdict m call x D) e.0 ∙ ap (verdict m call []) e.1

  still-consistent : (a : Row) (A C B D : List Row) → Grown (a ∷ A) C B D → verdict consistent call B D ≡ nothing
  still-consistent a A C [] D g = absurd (g.0 a (inl refl))
  still-consistent a A C (b ∷ B) D g = refl

  -- two that differ are there still
  still-differ : (a : Row) (A C B D : List Row) → another a A ≡ true → Grown (a ∷ A) C B D → verdict unique call B D ≡ nothing
  still-differ a A C [] D e g = absurd (g.0 a (inl refl))
  still-differ a A C (b ∷ B) D e g = go (another b B) refl
    where
      is-b : another b B ≡ false → (r : Row) → IsIn r (b ∷ B) → r ≡ b
      is-b f r (inl p) = sym p
      is-b f r (inr j) = another-none b B f r j

      go : (x : Bool) → another b B ≡ x → verdict unique call (b ∷ B) D ≡ nothing
      go true f = ap (λ z. cond z nothing (cond (some_row D) unfinished (cond (same_row b call) same (narrow b)))) f
      go false f =
          let k : another a A ≡ false = none-another a A (λ q i. is-b f q (g.0 q (inr i)) ∙ sym (is-b f a (g.0 a (inl refl)))) in
          absurd (cc (k, e))

  -- one row alone is there still
  still-one : (a : Row) (A B D : List Row) → another a A ≡ false → Grown (a ∷ A) [] B D → verdict unique call B D ≡ verdict unique call (a ∷ A) []
  still-one a A [] D e g = absurd (g.0 a (inl refl))
  still-one a A (b ∷ B) D e g =
      let is-a : (r : Row) → IsIn r (a ∷ A) → r ≡ a = λ r i. elim i [ inl p ↦ sym p | inr j ↦ another-none a A e r j ] in
      let old : (r : Row) → IsIn r (b ∷ B) → r ≡ a = λ r i. elim (g.1 r i) [ inl j ↦ is-a r j | inr u ↦ absurd u.1 ] in
      let first : b ≡ a = old b (inl refl) in
      let alone : another b B ≡ false = none-another b B (λ q i. old q (inr i) ∙ sym first) in
      let none : D ≡ [] = nothing_left D (λ r i. (g.2 r i).1) in
      ap (verdict unique call (b ∷ B)) none
      ∙ ap (λ z. cond z nothing (cond (same_row b call) same (narrow b))) alone
      ∙ ap (λ z. cond (same_row z call) same (narrow z)) first
      ∙ sym (ap (λ z. cond z nothing (cond (same_row a call) same (narrow a))) e)

  still-unique : (a : Row) (A C B D : List Row) → Grown (a ∷ A) C B D → (verdict unique call (a ∷ A) C ≡ unfinished → ⊥) → verdict unique call B D ≡ verdict unique call (a ∷ A) C
  still-unique a A C B D g h = go C (another a A) refl g h
    where
      go : (C : List Row) (x : Bool) → another a A ≡ x → Grown (a ∷ A) C B D → (verdict unique call (a ∷ A) C ≡ unfinished → ⊥) → verdict unique call B D ≡ verdict unique call (a ∷ A) C
      go C true e g h = still-differ a A C B D e g ∙ sym (ap (λ z. cond z nothing (cond (some_row C) unfinished (cond (same_row a call) same (narrow a)))) e)
      go [] false e g h = still-one a A B D e g
      go (c ∷ C) false e g h = absurd (h (ap (λ z. cond z nothing unfinished) e))

  width-of : (a r : Row) → RowCovers call a → RowCovers call r → count r.columns ≡ count a.columns
  width-of a r h k = sym (count-covers call r k) ∙ count-covers call a h

  -- the answers' generalisation of what has grown covers that of what was
  least-grown : (a b : Row) (A C B D : List Row) → Widths (b ∷ B) → Grown (a ∷ A) C (b ∷ B) D → RowCovers (least_row b B) (least_row a A)
  least-grown a b A C B D w g = least_row-least a A (least_row b B) (λ q i. least_row-covers b B q (g.0 q i) (width-of b q (w b (inl refl)) (w q (g.0 q i))))

  still-same : (a : Row) (A C B D : List Row) → Widths B → Grown (a ∷ A) C B D → same_row (least_row a A) call ≡ true → verdict most call B D ≡ same
  still-same a A C [] D w g e = absurd (g.0 a (inl refl))
  still-same a A C (b ∷ B) D w g e =
      let is : least_row a A ≡ call = same_row-sound (least_row a A) call e in
      let here : least_row b B ≡ call = covers_antisymmetric (least_row b B) call (least_row-IsCanonical b B) canonical (subst (RowCovers (least_row b B)) is (least-grown a b A C B D w g)) (least_row-least b B call w) in
      ap (λ z. cond (same_row z call) same (cond (same_row z (least_row b (B ++ D))) (narrow z) unfinished)) here
      ∙ ap (λ z. cond z same (cond (same_row call (least_row b (B ++ D))) (narrow call) unfinished)) (same_row-itself call)

  still-narrow : (a : Row) (A C B D : List Row) → Widths ((a ∷ A) ++ C) → Widths B → Grown (a ∷ A) C B D → same_row (least_row a A) call ≡ false → same_row (least_row a A) (least_row a (A ++ C)) ≡ true → verdict most call B D ≡ narrow (least_row a A)
  still-narrow a A C [] D v w g e f = absurd (g.0 a (inl refl))
  still-narrow a A C (b ∷ B) D v w g e f =
      let G = least_row a A in
      let H : G ≡ least_row a (A ++ C) = same_row-sound G (least_row a (A ++ C)) f in
      let all : (r : Row) → IsIn r ((a ∷ A) ++ C) → RowCovers G r = λ r i. subst (λ z. RowCovers z r) (sym H) (least_row-covers a (A ++ C) r i (width-of a r (v a (inl refl)) (v r i))) in
      let under : (r : Row) → CoveredByOne r C → RowCovers G r = λ r u. covers_through (pattern_of G) (pattern_of u.0) (pattern_of r) (all u.0 (IsIn-right u.0 (a ∷ A) C u.1)) u.2 in
      let answers : (r : Row) → IsIn r (b ∷ B) → RowCovers G r = λ r i. elim (g.1 r i) [ inl j ↦ all r (IsIn-left r (a ∷ A) C j) | inr u ↦ under r u ] in
      let leaves : (r : Row) → IsIn r ((b ∷ B) ++ D) → RowCovers G r = λ r i. elim (IsIn-either r (b ∷ B) D i) [ inl j ↦ answers r j | inr j ↦ under r (g.2 r j) ] in
      let low : RowCovers (least_row b B) G = least-grown a b A C B D w g in
      let one : least_row b B ≡ G = covers_antisymmetric (least_row b B) G (least_row-IsCanonical b B) (least_row-IsCanonical a A) low (least_row-least b B G answers) in
      let high : RowCovers (least_row b (B ++ D)) G = least_row-least a A (least_row b (B ++ D)) (λ q i. least_row-covers b (B ++ D) q (IsIn-left q (b ∷ B) D (g.0 q i)) (width-of b q (w b (inl refl)) (w q (g.0 q i)))) in
      let other : least_row b (B ++ D) ≡ G = covers_antisymmetric (least_row b (B ++ D)) G (least_row-IsCanonical b (B ++ D)) (least_row-IsCanonical a A) high (least_row-least b (B ++ D) G leaves) in
      ap (λ z. verdict_most call (Some z) (Some (least_row b (B ++ D)))) one ∙ ap (λ z. verdict_most call (Some G) (Some z)) other
      ∙ ap (λ z. cond z same (cond (same_row G G) (narrow G) unfinished)) e
      ∙ ap (λ z. cond z (narrow G) unfinished) (same_row-itself G)

  still-most : (a : Row) (A C B D : List Row) → Widths ((a ∷ A) ++ C) → Widths B → Grown (a ∷ A) C B D → (verdict most call (a ∷ A) C ≡ unfinished → ⊥) → verdict most call B D ≡ verdict most call (a ∷ A) C
  still-most a A C B D v w g h = go (same_row (least_row a A) call) (same_row (least_row a A) (least_row a (A ++ C))) refl refl
    where
      go : (x y : Bool) → same_row (least_row a A) call ≡ x → same_row (least_row a A) (least_row a (A ++ C)) ≡ y → verdict most call B D ≡ verdict most call (a ∷ A) C
      go true y e f = still-same a A C B D w g e ∙ sym (ap (λ z. cond z same (cond (same_row (least_row a A) (least_row a (A ++ C))) (narrow (least_row a A)) unfinished)) e)
      go false true e f = still-narrow a A C B D v w g e f ∙ sym (rw (e, f) refl)
      go false false e f = absurd (h (rw (e, f) refl))

  -- whatever the mode
  pub verdict-grown : (m : Mode) (A C B D : List Row) → Widths (A ++ C) → Widths B → Grown A C B D → (verdict m call A C ≡ unfinished → ⊥) → verdict m call B D ≡ verdict m call A C
  verdict-grown m [] [] B D v w g h = fails m B D g
  verdict-grown most [] (c ∷ C) B D v w g h = absurd (h refl)
  verdict-grown unique [] (c ∷ C) B D v w g h = absurd (h refl)
  verdict-grown consistent [] (c ∷ C) B D v w g h = absurd (h refl)
  verdict-grown most (a ∷ A) C B D v w g h = still-most a A C B D v w g h
  verdict-grown unique (a ∷ A) C B D v w g h = still-unique a A C B D g h
  verdict-grown consistent (a ∷ A) C B D v w g h = still-consistent a A C B D g

pub grown_keeps_verdict : GrownKeepsVerdict
grown_keeps_verdict call canonical m A C B D u w g f = verdict-grown call canonical m A C B D (λ r i. (u r i).0) (λ r i. (w r i).0) g f

pub deepens : Deepens
deepens clauses m shape face d e l v w h k f =
    let t = tree clauses (root shape face d) in
    let r = grows clauses t (root shape face d) e l (tree-IsSearch clauses (root shape face d)) in
    let A = answer_rows (leaves t) in
    let C = loose_rows (leaves t) in
    let B = answer_rows (leaves r.0) in
    let D = loose_rows (leaves r.0) in
    let first : HasVerdict clauses d m shape face (verdict m (call face) A C) = verdict_of_tree clauses d m shape face t (tree-IsSearch clauses (root shape face d)) in
    let later : HasVerdict clauses e m shape face (verdict m (call face) B D) = verdict_of_tree clauses e m shape face r.0 r.1 in
    let i : verdict m (call face) A C ≡ v = verdict_once clauses d m shape face (verdict m (call face) A C) v first h in
    let j : verdict m (call face) B D ≡ w = verdict_once clauses e m shape face (verdict m (call face) B D) w later k in
    sym j
    ∙ verdict-grown (call face) (call-IsCanonical face) m A C B D
    (λ x n. (leaves_under_call clauses shape face d t (tree-IsSearch clauses (root shape face d)) x n).0)
    (λ x n. (leaves_under_call clauses shape face e r.0 r.1 x (IsIn-left x B D n)).0)
    r.2 (λ u. f (sym i ∙ u))
    ∙ i
