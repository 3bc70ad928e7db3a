-- How far the walk of two terms has come, and the terms that are bound.
use Rattle.std.proofs.Common.{◌≡◌, ℕ, ◌+◌, ◌<◌, ◌≤◌, inl, inr, true, Bool, pos, List, [], ◌∷◌, ◌++◌, length, get_or, All, refl, ap, ◌∙◌, sym, arith, subst, append-nil, length-append}
use Rattle.std.specs.Prelude.{◌↔◌}
use Rattle.std.specs.Borrow.{Bor}
use Rattle.std.specs.Cmp.Lexicographic.{pointwise}
use Rattle.std.proofs.lemmas.List.{get_or-map, get_or_append_left, map-append}
use Rattle.std.proofs.lemmas.Bool.{cases_lt}
use Rattle.std.proofs.lemmas.List.Elements.{All-get_or, All-push}
use Rattle.std.proofs.lemmas.Slice.Eq.{slice_eq-Decides}
use Rattle.std.proofs.Math.ListN.{length-map}
use Rattle.pp_algebra.specs.Terms.{Tree, int, variable, Trees, none, more, variables, variables_all}
use Rattle.pp_algebra.specs.Rows.{Domains, IsNumbered}
use Rattle.pp_algebra.specs.Covers.{MayGo}
use Rattle.pp_row.specs.declared.cell.Cell.{Cell}
use Rattle.pp_row.specs.contracts.cell.CellPartialEq.TheImpl.{eq-value}
use Rattle.pp_row.specs.Reading.{tree_of, IsOneTerm}
use Rattle.pp_row.proofs.Decide.{cell_decides}
use Rattle.pp_row.proofs.Next.{IsNext}
use Rattle.pp_order.specs.Bindings.{terms, term_of, Follows, Takes, AreBound}
use Rattle.pp_order.proofs.Taking.{IsFixed, past_cell, before_cell, no_cell, variables_next}
use Rattle.pp_row.proofs.OneTerm.{same_terms}

-- the term of a bound variable
pub term_at : (bs : List (Bor (List Cell))) (k : ℕ) (d : Bor (List Cell)) → k < length bs → term_of (terms bs) k ≡ tree_of (get_or bs k d).now
term_at bs k d l = get_or-map (λ (b : Bor (List Cell)). tree_of b.now) bs k d (int (pos 0)) l

-- the comparison with a bound term
pub same_span : (bs xs : List (Bor (List Cell))) (k : ℕ) (d : Bor (List Cell)) (cs : List Cell) (b : Bool) → All (λ x. IsOneTerm x.now) bs → k < length bs → IsOneTerm cs → xs ≡ bs → b ≡ pointwise eq-value.it (get_or xs k d).now cs → (b ≡ true) ↔ (tree_of cs ≡ term_of (terms bs) k)
same_span bs xs k d cs b a l h e f =
    let dec = slice_eq-Decides cell_decides (get_or bs k d).now cs b (f ∙ ap (λ (ys : List (Bor (List Cell))). pointwise eq-value.it (get_or ys k d).now cs) e) in
    let w = All-get_or (λ (x : Bor (List Cell)). IsOneTerm x.now) bs k d l a in (
      λ g. ap (λ ys. tree_of ys) (sym (dec.0 g)) ∙ sym (term_at bs k d l),
      λ g. dec.1 (same_terms (get_or bs k d).now cs w h (sym (term_at bs k d l) ∙ sym g)),
    )

-- one more
pub terms-push : (bs : List (Bor (List Cell))) (b : Bor (List Cell)) → terms (bs ++ b ∷ []) ≡ terms bs ++ tree_of b.now ∷ []
terms-push bs b = map-append (λ (x : Bor (List Cell)). tree_of x.now) bs (b ∷ [])

term_old : (ts : List (Tree ℕ)) (t : Tree ℕ) (k : ℕ) → k < length ts → term_of (ts ++ t ∷ []) k ≡ term_of ts k
term_old ts t k l = get_or_append_left ts (t ∷ []) (int (pos 0)) k l

term_new : (ts : List (Tree ℕ)) (t : Tree ℕ) → term_of (ts ++ t ∷ []) (length ts) ≡ t
term_new [] t = refl
term_new (u ∷ ts) t = term_new ts t

module _ (ds es : Domains ℕ) where
  pub bound_push : (bs : List (Bor (List Cell))) (b : Bor (List Cell)) → AreBound ds es bs → IsOneTerm b.now → MayGo es (ds (length bs)) (tree_of b.now) → AreBound ds es (bs ++ b ∷ [])
  bound_push bs b a h g = record {
    whole = All-push (λ (x : Bor (List Cell)). IsOneTerm x.now) bs b a.whole h;
    goes = λ k l. rw (terms-push bs b) (elim (cases_lt k (length bs)) [
      | inl m ↦ rw (term_old (terms bs) (tree_of b.now) k (rw length-map m)) (a.goes k m)
      | inr m ↦ (let e : k ≡ length bs = omega (arith, m, l, length-append bs (b ∷ [])) in rw e (rw (sym (ap (term_of (terms bs ++ tree_of b.now ∷ [])) (length-map bs (λ x. tree_of x.now)))) (rw (term_new (terms bs) (tree_of b.now)) g)))
    ]);
  }

  -- what is ahead says all that is not behind
  pub record Walked (start : List (Tree ℕ)) (general special ahead left : Trees ℕ) (now : List (Tree ℕ)) : Type 0 where
    pub onward : (s : ℕ → Tree ℕ) → Follows s start → Takes ds es s general special → Follows s now × Takes ds es s ahead left
    pub back : (s : ℕ → Tree ℕ) → Follows s now → Takes ds es s ahead left → Follows s start × Takes ds es s general special
    pub numbered : (m : ℕ) → IsNumbered (length start) (variables_all general) m → IsNumbered (length now) (variables_all ahead) m

  pub starts : (start : List (Tree ℕ)) (general special : Trees ℕ) → Walked start general special general special start
  starts start general special = record { onward = λ s f t. (f, t); back = λ s f t. (f, t); numbered = λ m n. n }

  module _ (start now : List (Tree ℕ)) (general special ahead left : Trees ℕ) (w : Walked start general special ahead left now) where
    -- past a cell of both
    module _ (c d : Cell) (rs qs : Trees ℕ) (n : IsNext c ahead rs) (m : IsNext d left qs) (f : IsFixed c) where
      pub step_cell : c ≡ d → Walked start general special rs qs now
      step_cell e = record {
        onward = λ s g t. let r = w.onward s g t in (r.0, past_cell ds es s c d ahead left rs qs n m e f r.1);
        back = λ s g t. w.back s g (before_cell ds es s c d ahead left rs qs n m e f t);
        numbered = λ k h. subst (λ vs. IsNumbered (length now) vs k) (variables_next c ahead rs n f) (w.numbered k h);
      }

      pub other_cell : (c ≡ d → ⊥) → (s : ℕ → Tree ℕ) → Follows s start → Takes ds es s general special → ⊥
      other_cell e s g t = no_cell ds es s c d ahead left rs qs n m e f (w.onward s g t).1

    -- past a variable and the term that it stands for
    module _ (v : ℕ) (u : Tree ℕ) (rs qs : Trees ℕ) (a : ahead ≡ more (variable v) rs) (b : left ≡ more u qs) where
      here : (s : ℕ → Tree ℕ) → Follows s start → Takes ds es s general special → Takes ds es s (more (variable v) rs) (more u qs)
      here s g t = subst (λ x. Takes ds es s x (more u qs)) a (subst (Takes ds es s ahead) b (w.onward s g t).1)

      there : (s : ℕ → Tree ℕ) → Follows s now → Takes ds es s (more (variable v) rs) (more u qs) → Follows s start × Takes ds es s general special
      there s g t = w.back s g (subst (λ x. Takes ds es s x left) (sym a) (subst (Takes ds es s (more (variable v) rs)) (sym b) t))

      on_variable : (m : ℕ) → IsNumbered (length start) (variables_all general) m → IsNumbered (length now) (v ∷ variables_all rs) m
      on_variable m h = subst (λ x. IsNumbered (length now) (variables_all x) m) a (w.numbered m h)

      pub no_further : (m : ℕ) → IsNumbered (length start) (variables_all general) m → v ≤ length now
      no_further m h = elim (on_variable m h) [ inl x ↦ omega (arith, x.0) | inr y ↦ omega (arith, y.0) ]

      pub step_old : v < length now → u ≡ term_of now v → MayGo es (ds v) (term_of now v) → Walked start general special rs qs now
      step_old l e g = record {
        onward = λ s f t. let h = here s f t in (let k = h.terms in ((w.onward s f t).0, record { terms = cc; domains = λ x i. h.domains x (inr i) }));
        back = λ s f t. there s f (record {
          terms = rw (f v l, ← e, t.terms) refl;
          domains = λ x i. elim i [ inl k ↦ subst (λ y. MayGo es (ds y) (s y)) k (subst (MayGo es (ds v)) (sym (f v l)) g) | inr j ↦ t.domains x j ];
        });
        numbered = λ m h. elim (on_variable m h) [ inl x ↦ x.1 | inr y ↦ absurd (omega (arith, l, y.0)) ];
      }

      pub other_old : v < length now → (u ≡ term_of now v → ⊥) → (s : ℕ → Tree ℕ) → Follows s start → Takes ds es s general special → ⊥
      other_old l e s f t = let h = (here s f t).terms in (let k = (w.onward s f t).0 v l in (let x : s v ≡ u = cc in e (sym x ∙ k)))

      pub step_new : v ≡ length now → MayGo es (ds v) u → Walked start general special rs qs (now ++ u ∷ [])
      step_new e g = record {
        onward = λ s f t.
            let h = here s f t in
            let r = (w.onward s f t).0 in
            let k = h.terms in
            let x : s v ≡ u = cc in (
              λ i l. elim (cases_lt i (length now)) [
                | inl m ↦ r i m ∙ sym (term_old now u i m)
                | inr m ↦ (let j : i ≡ length now = omega (arith, m, l, length-append now (u ∷ [])) in ap s (j ∙ sym e) ∙ x ∙ sym (term_new now u) ∙ ap (term_of (now ++ u ∷ [])) (sym j))
              ],
              record { terms = cc; domains = λ y i. h.domains y (inr i) },
            );
        back = λ s f t.
            let x : s v ≡ u = ap s e ∙ f (length now) (omega (arith, length-append now (u ∷ []))) ∙ term_new now u in
            there s (λ i l. f i (omega (arith, l, length-append now (u ∷ []))) ∙ term_old now u i l) (record {
              terms = rw (x, t.terms) refl;
              domains = λ y i. elim i [ inl k ↦ subst (λ z. MayGo es (ds z) (s z)) k (subst (MayGo es (ds v)) (sym x) g) | inr j ↦ t.domains y j ];
            });
        numbered = λ m h. elim (on_variable m h) [
          | inl x ↦ absurd (omega (arith, e, x.0))
          | inr y ↦ subst (λ n. IsNumbered n (variables_all rs) m) (omega (arith, length-append now (u ∷ []))) y.1
        ];
      }

      pub other_new : (MayGo es (ds v) u → ⊥) → (s : ℕ → Tree ℕ) → Follows s start → Takes ds es s general special → ⊥
      other_new e s f t = let h = here s f t in (let k = h.terms in (let x : s v ≡ u = cc in e (subst (MayGo es (ds v)) x (h.domains v (inl refl)))))

  pub at_end : (start now : List (Tree ℕ)) (general special ahead left : Trees ℕ) → Walked start general special ahead left now → ahead ≡ none → left ≡ none → (s : ℕ → Tree ℕ) → (Follows s start × Takes ds es s general special) ↔ Follows s now
  at_end start now general special ahead left w e f s = (
    λ p. (w.onward s p.0 p.1).0,
    λ g. w.back s g (subst (λ x. Takes ds es s x left) (sym e) (subst (Takes ds es s none) (sym f) (record { terms = refl; domains = λ v i. absurd i }))),
  )

  pub ends_numbered : (start now : List (Tree ℕ)) (a : Tree ℕ) (special ahead left : Trees ℕ) → Walked start (more a none) special ahead left now → ahead ≡ none → (m : ℕ) → IsNumbered (length start) (variables a) m → length now ≡ m
  ends_numbered start now a special ahead left w e m h = subst (λ x. IsNumbered (length now) (variables_all x) m) e (w.numbered m (subst (λ vs. IsNumbered (length start) vs m) (sym (append-nil (variables a))) h))

  -- a variable that was bound or compared
  module _ (start : List (Tree ℕ)) (general special ahead left rs qs : Trees ℕ) (bs cs : List (Bor (List Cell))) (x : Bor (List Cell)) (v : ℕ) (b : Bool) (a : ahead ≡ more (variable v) rs) (e : left ≡ more (tree_of x.now) qs) (k : v ≤ length bs) (w : Walked start general special ahead left (terms bs)) (g : AreBound ds es bs)
      (old : v < length bs → (cs ≡ bs) × ((b ≡ true) ↔ (tree_of x.now ≡ term_of (terms bs) v)))
      (new : v ≡ length bs → ((b ≡ true) ↔ MayGo es (ds v) (tree_of x.now)) × (b ≡ true → cs ≡ bs ++ x ∷ []))
    where
      same_length : length (terms bs) ≡ length bs
      same_length = length-map bs (λ y. tree_of y.now)

      pub step_variable : b ≡ true → Walked start general special rs qs (terms cs)
      step_variable h = elim (cases_lt v (length bs)) [
        | inl l ↦ subst (λ ys. Walked start general special rs qs (terms ys)) (sym (old l).0) (step_old start (terms bs) general special ahead left w v (tree_of x.now) rs qs a e (omega (arith, l, same_length)) ((old l).1.0 h) (g.goes v l))
        | inr l ↦ (let i : v ≡ length bs = omega (arith, l, k) in subst (λ ys. Walked start general special rs qs ys) (sym (ap terms ((new i).1 h) ∙ terms-push bs x)) (step_new start (terms bs) general special ahead left w v (tree_of x.now) rs qs a e (i ∙ sym same_length) ((new i).0.0 h)))
      ]

      pub other_variable : (b ≡ true → ⊥) → (s : ℕ → Tree ℕ) → Follows s start → Takes ds es s general special → ⊥
      other_variable h = elim (cases_lt v (length bs)) [
        | inl l ↦ other_old start (terms bs) general special ahead left w v (tree_of x.now) rs qs a e (omega (arith, l, same_length)) (λ f. h ((old l).1.1 f))
        | inr l ↦ other_new start (terms bs) general special ahead left w v (tree_of x.now) rs qs a e (λ f. h ((new (omega (arith, l, k))).0.1 f))
      ]

pub started : (bs : List (Bor (List Cell))) (a : Tree ℕ) (m : ℕ) → IsNumbered (length bs) (variables a) m → IsNumbered (length (terms bs)) (variables_all (more a none)) m
started bs a m h = subst (λ vs. IsNumbered (length (terms bs)) vs m) (sym (append-nil (variables a))) (subst (λ n. IsNumbered n (variables a) m) (sym (length-map bs (λ y. tree_of y.now))) h)
