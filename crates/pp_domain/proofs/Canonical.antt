-- Lists of intervals with the same integers are the same list.
use Rattle.std.proofs.Common.{◌≡◌, ℤ, pos, ◌+ℤ◌, ◌≤ℤ◌, ◌<ℤ◌, inl, inr, true, false, Bool, List, [], ◌∷◌, refl, ap, sym, ◌∙◌, subst, arith}
use Rattle.std.specs.FinSet as set
use Rattle.std.specs.Cmp.{int_cmp_total}
use Rattle.std.specs.Ordering.{int_cmp}
use Rattle.std.proofs.lemmas.Int.{ints, by_lt_z}
use Rattle.std.proofs.lemmas.Bool.Decides.{same_from_decides, Decides-like}
use Rattle.std.specs.Bool.{Decides}
use Rattle.pp_domain.specs.Intervals.{Lies, IsApart, IsDomain}
use Rattle.pp_domain.specs.Sets.{set_of}
use Rattle.pp_algebra.specs.Rows.{Domain}
use Rattle.pp_domain.proofs.Members.{contains_lies}

-- each integer of the first lies in the second
abbrev pub AllLie : List (ℤ × ℤ) → List (ℤ × ℤ) → Type 0
AllLie ps qs = (v : ℤ) → Lies ps v → Lies qs v

pub lies_above : (ps : List (ℤ × ℤ)) (low high v : ℤ) → IsApart low ps high → Lies ps v → low <ℤ v
lies_above [] low high v a h = absurd h
lies_above (p ∷ ps) low high v a (inl h) = omega (arith, ints)
lies_above (p ∷ ps) low high v a (inr h) = let r = lies_above ps (p.1 +ℤ pos 1) high v a.2 h in omega (arith, ints)

pub apart_room : (ps : List (ℤ × ℤ)) (low high : ℤ) → IsApart low ps high → low ≤ℤ high
apart_room [] low high a = a
apart_room (p ∷ ps) low high a = let r = apart_room ps (p.1 +ℤ pos 1) high a.2 in omega (arith, ints)

pub lies_below : (ps : List (ℤ × ℤ)) (low high v : ℤ) → IsApart low ps high → Lies ps v → v <ℤ high
lies_below [] low high v a h = absurd h
lies_below (p ∷ ps) low high v a (inl h) = let r = apart_room ps (p.1 +ℤ pos 1) high a.2 in omega (arith, ints)
lies_below (p ∷ ps) low high v a (inr h) = lies_below ps (p.1 +ℤ pos 1) high v a.2 h

-- where v lies in the first interval or later, and is at most its end, it lies in the first
pub lies_first : (p : ℤ × ℤ) (ps : List (ℤ × ℤ)) (high v : ℤ) → IsApart (p.1 +ℤ pos 1) ps high → v ≤ℤ (p.1 +ℤ pos 1) → Lies (p ∷ ps) v → (p.0 ≤ℤ v) × (v ≤ℤ p.1)
lies_first p ps high v a below (inl h) = h
lies_first p ps high v a below (inr h) = let r = lies_above ps (p.1 +ℤ pos 1) high v a h in absurd (omega (arith, ints))

pub lies_rest : (p : ℤ × ℤ) (ps : List (ℤ × ℤ)) (v : ℤ) → p.1 <ℤ v → Lies (p ∷ ps) v → Lies ps v
lies_rest p ps v above (inl h) = absurd (omega (arith, ints))
lies_rest p ps v above (inr h) = h

-- of two lists where the first's integers lie in the second, the first begins no earlier
pub begins_later : (p q : ℤ × ℤ) (ps qs : List (ℤ × ℤ)) (low high : ℤ) → IsApart low (p ∷ ps) high → IsApart low (q ∷ qs) high → AllLie (p ∷ ps) (q ∷ qs) → q.0 ≤ℤ p.0
begins_later p q ps qs low high a b h = go (h p.0 (inl (omega (arith, ints), omega (arith, ints))))
  where
    go : Lies (q ∷ qs) p.0 → q.0 ≤ℤ p.0
    go (inl i) = i.0
    go (inr i) = let r = lies_above qs (q.1 +ℤ pos 1) high p.0 b.2 i in omega (arith, ints)

-- one that begins within the second's first interval ends there
pub ends_earlier : (p q : ℤ × ℤ) (ps qs : List (ℤ × ℤ)) (high : ℤ) → IsApart (q.1 +ℤ pos 1) qs high → p.0 ≤ℤ (q.1 +ℤ pos 1) → AllLie (p ∷ ps) (q ∷ qs) → p.1 ≤ℤ q.1
ends_earlier p q ps qs high b starts h = by_lt_z q.1 p.1
    (λ less. let r = lies_first q qs high (q.1 +ℤ pos 1) b (omega (arith, ints)) (h (q.1 +ℤ pos 1) (inl (starts, omega (arith, ints, less)))) in absurd (omega (arith, ints, r.1)))
    (λ at_most. at_most)

rest_lies : (p q : ℤ × ℤ) (ps qs : List (ℤ × ℤ)) (high : ℤ) → IsApart (p.1 +ℤ pos 1) ps high → q.1 ≤ℤ p.1 → AllLie (p ∷ ps) (q ∷ qs) → AllLie ps qs
rest_lies p q ps qs high a ends h v i = let r = lies_above ps (p.1 +ℤ pos 1) high v a i in lies_rest q qs v (omega (arith, ints)) (h v (inr i))

pub same_lists : (ps qs : List (ℤ × ℤ)) (low high : ℤ) → IsApart low ps high → IsApart low qs high → AllLie ps qs → AllLie qs ps → ps ≡ qs
same_lists [] [] low high a b h k = refl
same_lists [] (q ∷ qs) low high a b h k = absurd (k q.0 (inl (omega (arith, ints), b.1)))
same_lists (p ∷ ps) [] low high a b h k = absurd (h p.0 (inl (omega (arith, ints), a.1)))
same_lists (p ∷ ps) (q ∷ qs) low high a b h k =
    let p0 : q.0 ≤ℤ p.0 = begins_later p q ps qs low high a b h in
    let q0 : p.0 ≤ℤ q.0 = begins_later q p qs ps low high b a k in
    let p1 : p.1 ≤ℤ q.1 = ends_earlier p q ps qs high b.2 (omega (arith, ints)) h in
    let q1 : q.1 ≤ℤ p.1 = ends_earlier q p qs ps high a.2 (omega (arith, ints)) k in
    let lows : p.0 ≡ q.0 = omega (arith, ints) in
    let highs : p.1 ≡ q.1 = omega (arith, ints) in
    let b' : IsApart (p.1 +ℤ pos 1) qs high = let F : ℤ → Type 0 = λ z. IsApart (z +ℤ pos 1) qs high in subst F (sym highs) b.2 in
    let rest : ps ≡ qs = same_lists ps qs (p.1 +ℤ pos 1) high a.2 b' (rest_lies p q ps qs high a.2 q1 h) (rest_lies q p qs ps high b.2 p1 k) in
    λ i. (lows i, highs i) ∷ rest i

all_lie_in_set : (ps qs : List (ℤ × ℤ)) → IsDomain ps → IsDomain qs → set_of ps ≡ set_of qs → AllLie ps qs
all_lie_in_set ps qs d e same v h = (contains_lies qs v e).0 (ap (λ s. set.contains s v) (sym same) ∙ (contains_lies ps v d).1 h)

-- equal sets have equal lists
pub sets_tell_domains : (ps qs : List (ℤ × ℤ)) → IsDomain ps → IsDomain qs → set_of ps ≡ set_of qs → ps ≡ qs
sets_tell_domains ps qs d e same = same_lists ps qs _ _ d.apart e.apart (all_lie_in_set ps qs d e same) (all_lie_in_set qs ps e d (sym same))

-- lists with the same integers have the same set
pub same_sets : (ps qs : List (ℤ × ℤ)) → IsDomain ps → IsDomain qs → AllLie ps qs → AllLie qs ps → set_of ps ≡ set_of qs
same_sets ps qs d e h k = set.same_set int_cmp_total set.int_cmp-IsAntisymmetric _ _
    (λ v. same_from_decides _ _ (contains_lies ps v d) (Decides-like _ (k v) (h v) (contains_lies qs v e)))

-- a set whose members are the integers that lie in a domain is that domain's
pub set_is : (ps : List (ℤ × ℤ)) (s : Domain) → IsDomain ps → ((v : ℤ) → Decides (set.contains s v) (Lies ps v)) → set_of ps ≡ s
set_is ps s d h = set.same_set int_cmp_total set.int_cmp-IsAntisymmetric _ _ (λ v. same_from_decides _ _ (contains_lies ps v d) (h v))

-- a set with no member is the empty one
pub empty_is : (s : Domain) → ((v : ℤ) → set.contains s v ≡ true → ⊥) → s ≡ set.empty
empty_is s h = set.same_set int_cmp_total set.int_cmp-IsAntisymmetric _ _ (λ v. not_there _ (h v) ∙ sym (set.contains-empty int_cmp v))
  where
    not_there : (b : Bool) → (b ≡ true → ⊥) → b ≡ false
    not_there true f = absurd (f refl)
    not_there false f = refl

-- a domain's set isn't empty
pub not_empty : (ps : List (ℤ × ℤ)) → IsDomain ps → set_of ps ≡ set.empty → ⊥
not_empty [] d e = absurd (omega (arith, d.some))
not_empty (p ∷ ps) d e = let a = d.apart in
    let one : set.contains (set_of (p ∷ ps)) p.0 ≡ true = (contains_lies (p ∷ ps) p.0 d).1 (inl (omega (arith, ints), a.1)) in
    let none : set.contains (set_of (p ∷ ps)) p.0 ≡ false = ap (λ s. set.contains s p.0) e ∙ set.contains-empty int_cmp p.0 in
    absurd (cc)

-- a test of the intervals is the test of the set
pub tells_member : (ps qs rs : List (ℤ × ℤ)) (v : ℤ) (b : Bool) → IsDomain qs → ps ≡ qs → qs ≡ rs → Decides b (Lies ps v) → b ≡ set.contains (set_of rs) v
tells_member ps qs rs v b d e f h =
    let F : List (ℤ × ℤ) → Type 0 = IsDomain in
    let G : List (ℤ × ℤ) → Type 0 = λ xs. Decides b (Lies xs v) in
    same_from_decides _ _ (subst G (e ∙ f) h) (contains_lies rs v (subst F f d))

subset_lies : (ps qs : List (ℤ × ℤ)) → IsDomain ps → IsDomain qs → Decides (set.is_subset (set_of ps) (set_of qs)) (AllLie ps qs)
subset_lies ps qs d e = (
  λ h v l. (contains_lies qs v e).0 (set.is_subset-contains int_cmp_total (set_of ps) (set_of qs) h v ((contains_lies ps v d).1 l)),
  λ h. set.contains-is_subset int_cmp_total (set_of ps) (set_of qs) (λ v m. (contains_lies qs v e).1 (h v ((contains_lies ps v d).0 m))),
)

-- a test of inclusion of intervals is that of the sets
pub tells_inclusion : (ps ps' ps'' qs qs' qs'' : List (ℤ × ℤ)) (b : Bool) → IsDomain ps' → IsDomain qs' → ps ≡ ps' → ps' ≡ ps'' → qs ≡ qs' → qs' ≡ qs''
    → Decides b (AllLie ps qs) → b ≡ set.is_subset (set_of ps'') (set_of qs'')
tells_inclusion ps ps' ps'' qs qs' qs'' b d e p p' q q' h =
    let F : List (ℤ × ℤ) → Type 0 = λ xs. Decides b (AllLie xs qs) in
    let G : List (ℤ × ℤ) → Type 0 = λ xs. Decides b (AllLie ps'' xs) in
    same_from_decides _ _ (subst G (q ∙ q') (subst F (p ∙ p') h)) (subset_lies ps'' qs'' (subst IsDomain p' d) (subst IsDomain q' e))
