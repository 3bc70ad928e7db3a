-- What is found at a place: its place, and bounds from their integers.
use Rattle.std.proofs.Common.{◌≡◌, ℕ, ℤ, ◌+◌, ◌<◌, ◌≤◌, false, List, [], ◌∷◌, ◌++◌, length, drop, Option, Some, None, refl, ap, sym, subst, ◌∙◌, arith, to_z, of_z, w64}
use Rattle.std.specs.Prelude.{Bool, IsTrue, ◌↔◌, option_map}
use Rattle.std.proofs.lemmas.List.{length-drop, drop-drop}
use Rattle.std.proofs.lemmas.Int.{ints}
use Rattle.pp_algebra.specs.Members.{IsInteger}
use Rattle.pp_domain.proofs.Words.{word_is}
use Rattle.pp_language.specs.declared.token.Kind.{Kind}
use Rattle.pp_language.specs.Texts.{Text}
use Rattle.pp_language.specs.Phrases as phrases
use Rattle.pp_language.specs.Statements.{one_bound, two_bounds, bounds_parts}
use Rattle.pp_language.specs.Meanings.{integer_of, integers_between}
use Rattle.pp_parse.specs.declared.parts.Part.{Part}
use Rattle.pp_parse.specs.Seen.{AreSeen}
use Rattle.pp_language.specs.Fronts.{mark_in, integer_in, upper_in, bounds_by, bounds_in}
use Rattle.pp_parse.specs.Found.{FoundAt}
use Rattle.pp_parse.specs.Sets.{AreEnds}
use Rattle.pp_parse.proofs.Fronts.{next_place, Stands, bounds_stand}

-- ===== places

pub seen_length : (qs : List phrases.Part) (ps : List Part) → AreSeen qs ps → length ps ≡ length qs
seen_length [] [] h = refl
seen_length [] (p ∷ ps) h = absurd h
seen_length (q ∷ qs) [] h = absurd h
seen_length (q ∷ qs) (p ∷ ps) h = let k = seen_length qs ps h.1 in omega arith

-- so many parts stand at a place
pub room : (n i : ℕ) (qs : List phrases.Part) → 0 < n → n ≤ length (drop i qs) → i + n ≤ length qs
room n i qs s h = omega (arith, length-drop i qs)

pub mark_room : (i : ℕ) (qs : List phrases.Part) (k : Kind) → mark_in (drop i qs) ≡ Some k → i + 1 ≤ length qs
mark_room i qs k e = room 1 i qs (omega arith) (some_part (drop i qs) e)
  where
    some_part : (ps : List phrases.Part) → mark_in ps ≡ Some k → 1 ≤ length ps
    some_part [] f = absurd (cc)
    some_part (p ∷ ps) f = omega arith

-- what the code's test for a mark says where it is false
pub not_marked : {P : Type 0} (b : Bool) → (IsTrue b ↔ P) → b ≡ false → P → ⊥
not_marked b h e p = let f = h.1 p in absurd (cc (e, f))

-- ===== bounds

pub integer_is : (z : ℤ) → IsInteger z → to_z w64 (of_z w64 z) ≡ z
integer_is z h = word_is z (omega (arith, ints, h.at_least)) (omega (arith, ints, h.at_most))

mapped_some : (o : Option Text) (z : ℤ) → Some z ≡ option_map integer_of o → (n : Text) × (o ≡ Some n) × (z ≡ integer_of n)
mapped_some None z e = absurd (cc)
mapped_some (Some n) z e = (n, refl, cc)

mapped_none : (o : Option Text) → None ≡ option_map integer_of o → o ≡ None
mapped_none None e = refl
mapped_none (Some n) e = absurd (cc)

some_room : (ps : List phrases.Part) (n : Text) → integer_in ps ≡ Some n → 1 ≤ length ps
some_room [] n e = absurd (cc)
some_room (p ∷ ps) n e = omega arith

two_room : (ps : List phrases.Part) (n m : Text) (qs : List phrases.Part) → bounds_in ps ≡ Some (two_bounds n m, qs) → 3 ≤ length ps
two_room ps n m qs e = let h : ps ≡ bounds_parts (two_bounds n m) ++ qs = subst (Stands bounds_parts ps) e (bounds_stand ps) in omega (arith, ap length h)

module _ (qs : List phrases.Part) (i : ℕ) (low : ℤ) (first : Some low ≡ option_map integer_of (integer_in (drop i qs))) where
  pub behind_first : i + 1 ≤ length qs
  behind_first = let f = mapped_some (integer_in (drop i qs)) low first in room 1 i qs (omega arith) (some_room (drop i qs) f.0 f.1)

  pub one_found : None ≡ option_map integer_of (upper_in (drop (i + 1) qs)) → IsInteger low → FoundAt bounds_in AreEnds qs i (Some (record { low = to_z w64 (of_z w64 low); high = to_z w64 (of_z w64 low) }, i + 1))
  one_found second h =
      let ps = drop i qs in
      let f = mapped_some (integer_in ps) low first in
      let s : upper_in (drop 1 ps) ≡ None = ap upper_in (sym (next_place i qs)) ∙ mapped_none (upper_in (drop (i + 1) qs)) second in
      let b : bounds_in ps ≡ Some (one_bound f.0, drop (i + 1) qs) =
      ap (λ o. bounds_by o (upper_in (drop 1 ps)) ps) f.1 ∙ ap (λ o. bounds_by (Some f.0) o ps) s ∙ ap (λ us. Some (one_bound f.0, us)) (sym (next_place i qs)) in
      let w = integer_is low h in (
        one_bound f.0,
        b,
        record {
          low = subst IsInteger (sym w) h;
          high = subst IsInteger (sym w) h;
          set = ap (λ z. integers_between z z) (sym (w ∙ f.2));
        },
        omega arith,
        behind_first,
      )

  pub two_found : (high : ℤ) → Some high ≡ option_map integer_of (upper_in (drop (i + 1) qs)) → IsInteger low → IsInteger high → FoundAt bounds_in AreEnds qs i (Some (record { low = to_z w64 (of_z w64 low); high = to_z w64 (of_z w64 high) }, i + 3))
  two_found high second h g =
      let ps = drop i qs in
      let f = mapped_some (integer_in ps) low first in
      let s = mapped_some (upper_in (drop (i + 1) qs)) high second in
      let b : bounds_in ps ≡ Some (two_bounds f.0 s.0, drop 3 ps) =
      ap (λ o. bounds_by o (upper_in (drop 1 ps)) ps) f.1 ∙ ap (λ o. bounds_by (Some f.0) o ps) (ap upper_in (sym (next_place i qs)) ∙ s.1) in
      let w = integer_is low h in
      let v = integer_is high g in (
        two_bounds f.0 s.0,
        b ∙ ap (λ us. Some (two_bounds f.0 s.0, us)) (drop-drop 3 i qs),
        record {
          low = subst IsInteger (sym w) h;
          high = subst IsInteger (sym v) g;
          set = ap (λ z. integers_between z (integer_of s.0)) (sym (w ∙ f.2)) ∙ ap (integers_between (to_z w64 (of_z w64 low))) (sym (v ∙ s.2));
        },
        omega arith,
        room 3 i qs (omega arith) (two_room ps f.0 s.0 (drop 3 ps) b),
      )
