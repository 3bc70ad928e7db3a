-- Peeks of which one has stolen, or not.
use Rattle.std.proofs.Common.{◌≡◌, ℕ, zero, suc, ◌<◌, List, [], ◌∷◌, ◌++◌, length, map, set, get_or, refl, ap, sym, ◌∙◌, inl, inr, arith}
use Rattle.crossbeam_deque.specs.Handles.{stealer_deque}
use Rattle.pp_deal.specs.Hands.{IsSamePeek, stolen, taken}
use Rattle.pp_deal.specs.declared.hand.Hand.{Hand}
use Rattle.pp_deal.specs.declared.hand.Peek.{Peek}
use Rattle.pp_worker.specs.Peeks.{AreSamePeeks, StoleNothing, StoleOne, WasTaken}

none : (i : ℕ) → i < 0 → ⊥
none i h = omega (arith, h)

module _ {T : Type 0} where
  pub same_all : (ps : List (Peek T)) → AreSamePeeks ps ps
  same_all [] = tt
  same_all (p ∷ ps) = (refl, same_all ps)

  pub same_then : (ps qs rs : List (Peek T)) → AreSamePeeks ps qs → AreSamePeeks qs rs → AreSamePeeks ps rs
  same_then [] [] rs a b = b
  same_then [] (q ∷ qs) rs a b = absurd a
  same_then (p ∷ ps) [] rs a b = absurd a
  same_then (p ∷ ps) (q ∷ qs) [] a b = absurd b
  same_then (p ∷ ps) (q ∷ qs) (r ∷ rs) a b = (b.0 ∙ a.0, same_then ps qs rs a.1 b.1)

  pub set_same : (ps qs : List (Peek T)) (i : ℕ) (q r : Peek T) → AreSamePeeks ps qs → q ≡ get_or qs i q → IsSamePeek q r → AreSamePeeks ps (set qs i r)
  set_same [] [] i q r s at is = tt
  set_same [] (x ∷ xs) i q r s at is = absurd s
  set_same (p ∷ ps) [] i q r s at is = absurd s
  set_same (p ∷ ps) (x ∷ xs) zero q r s at is = (is ∙ (ap (λ (z : Peek T). stealer_deque z.stealer) at ∙ s.0), s.1)
  set_same (p ∷ ps) (x ∷ xs) (suc i) q r s at is = (s.0, set_same ps xs i q r s.1 at is)

  pub set_none : (qs : List (Peek T)) (i : ℕ) (q r : Peek T) → q ≡ get_or qs i q → stolen r ≡ stolen q → map stolen (set qs i r) ≡ map stolen qs
  set_none [] i q r at is = refl
  set_none (x ∷ xs) zero q r at is = ap (λ (l : List T). l ∷ map stolen xs) (is ∙ ap stolen at)
  set_none (x ∷ xs) (suc i) q r at is = ap (λ (l : List (List T)). stolen x ∷ l) (set_none xs i q r at is)

  pub set_one : (qs : List (Peek T)) (i : ℕ) (q r : Peek T) (item : T) → i < length qs → q ≡ get_or qs i q → stolen r ≡ stolen q ++ item ∷ [] → StoleOne item qs (set qs i r)
  set_one [] i q r item within at is = absurd (none i within)
  set_one (x ∷ xs) zero q r item within at is = record {
    before = [];
    items = stolen q;
    after = map stolen xs;
    old = ap (λ (p : Peek T). stolen p ∷ map stolen xs) (sym at);
    new = ap (λ (l : List T). l ∷ map stolen xs) is;
  }
  set_one (x ∷ xs) (suc i) q r item within at is =
      let rest = set_one xs i q r item (omega (arith, within)) at is in
      record {
        before = stolen x ∷ rest.before;
        items = rest.items;
        after = rest.after;
        old = ap (λ (l : List (List T)). stolen x ∷ l) rest.old;
        new = ap (λ (l : List (List T)). stolen x ∷ l) rest.new;
      }

  pub stole_since : (ps qs rs : List (Peek T)) (item : T) → StoleNothing ps qs → StoleOne item qs rs → StoleOne item ps rs
  stole_since ps qs rs item none one = record { before = one.before; items = one.items; after = one.after; old = sym none ∙ one.old; new = one.new }

  -- the item under another name, and hands and peeks that took as much
  pub taken_then : (item same : T) (h k l : Hand T) (ps qs rs : List (Peek T)) → same ≡ item → taken l ≡ taken k → rs ≡ qs → WasTaken item h k ps qs → WasTaken same h l ps rs
  taken_then item same h k l ps qs rs named hand peeks (inl x) =
      inl (hand ∙ (x.0 ∙ ap (λ (t : T). taken h ++ t ∷ []) (sym named)), ap (λ (l : List (Peek T)). map stolen l) peeks ∙ x.1)
  taken_then item same h k l ps qs rs named hand peeks (inr x) =
      let new = x.1.new ∙ ap (λ (t : T). x.1.before ++ (x.1.items ++ t ∷ []) ∷ x.1.after) (sym named) in
      inr (hand ∙ x.0, record { before = x.1.before; items = x.1.items; after = x.1.after; old = x.1.old; new = ap (λ (l : List (Peek T)). map stolen l) peeks ∙ new })
