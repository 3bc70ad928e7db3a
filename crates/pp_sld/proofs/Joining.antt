-- The laws of joins of findings that fit.
use Rattle.std.proofs.Common.{◌≡◌, Bool, true, false, cond, ◌||◌, [], ◌∷◌, Option, Some, None, refl, ap, sym, ◌∙◌, subst, inl, inr}
use Rattle.pp_algebra.specs.Terms.{count}
use Rattle.pp_algebra.specs.Rows.{Row, IsCanonical, pattern_of}
use Rattle.pp_algebra.specs.Canon.{same_row}
use Rattle.pp_algebra.specs.Least.{least_row}
use Rattle.pp_algebra.specs.Covers.{RowCovers}
use Rattle.pp_algebra.specs.Joins.{AllOf}
use Rattle.pp_algebra.proofs.Order.{covers_through}
use Rattle.pp_algebra.proofs.Antisym.{covers_antisymmetric}
use Rattle.pp_algebra.proofs.Law.{least_row-IsCanonical, least_row-covers, least_row-least, count-covers}
use Rattle.pp_algebra.proofs.Sets.{least_commutes, least_associates, least_is_idempotent}
use Rattle.pp_algebra.proofs.SameRow.{same_row-sound, same_row-itself}
use Rattle.pp_sld.specs.Verdicts.{Mode, most, unique, consistent, same, unfinished, narrow, verdict_most}
use Rattle.pp_sld.proofs.Verdicts.{sole-two, cases, one-same, one-differ, sole-assoc}
use Rattle.pp_sld.specs.Findings.{Sole, no_row, two_rows, one_row, Finding, finds_most, finds_unique, finds_consistent, join_sole, finding, empty, join_option, join_finding, outcome, settled}
use Rattle.pp_sld.specs.LawsOfFindings.{EmptyIsUnit}
use Rattle.pp_sld.specs.Lattice.{IsUnder, UnderIfSome, CoversIfSome, UnderIfOne, Fits}
use Rattle.std.proofs.Math.Bool.{or_comm, or_assoc}

-- options
option-again : (call : Row) (o : Option Row) → UnderIfSome call o → join_option o o ≡ o
option-again call None h = refl
option-again call (Some r) h = ap Some (least_is_idempotent r h.1)

option-turned : (call : Row) (o p : Option Row) → UnderIfSome call o → UnderIfSome call p → join_option o p ≡ join_option p o
option-turned call None None h k = refl
option-turned call None (Some q) h k = refl
option-turned call (Some r) None h k = refl
option-turned call (Some r) (Some q) h k = ap Some (least_commutes r q (sym (count-covers call q k.0) ∙ count-covers call r h.0))

wide : (call r : Row) → IsUnder call r → IsCanonical r × (count r.columns ≡ count call.columns)
wide call r h = (h.1, sym (count-covers call r h.0))

three : (call r q p : Row) → IsUnder call r → IsUnder call q → IsUnder call p → AllOf (count call.columns) (r ∷ q ∷ p ∷ [])
three call r q p hr hq hp x (inl e) = subst (λ y. IsCanonical y × (count y.columns ≡ count call.columns)) e (wide call r hr)
three call r q p hr hq hp x (inr (inl e)) = subst (λ y. IsCanonical y × (count y.columns ≡ count call.columns)) e (wide call q hq)
three call r q p hr hq hp x (inr (inr (inl e))) = subst (λ y. IsCanonical y × (count y.columns ≡ count call.columns)) e (wide call p hp)
three call r q p hr hq hp x (inr (inr (inr f))) = absurd f

option-grouped : (call : Row) (o p w : Option Row) → UnderIfSome call o → UnderIfSome call p → UnderIfSome call w → join_option (join_option o p) w ≡ join_option o (join_option p w)
option-grouped call None p w ho hp hw = refl
option-grouped call (Some r) None w ho hp hw = refl
option-grouped call (Some r) (Some q) None ho hp hw = refl
option-grouped call (Some r) (Some q) (Some p) ho hp hw = ap Some (least_associates (count call.columns) r q p (three call r q p ho hp hw))

pub covers-two : (s r q : Row) → RowCovers s r → RowCovers s q → RowCovers s (least_row r (q ∷ []))
covers-two s r q h k = least_row-least r (q ∷ []) s (λ p i. elim i [ inl e ↦ subst (RowCovers s) e h | inr j ↦ elim j [ inl e ↦ subst (RowCovers s) e k | inr f ↦ absurd f ] ])

option-under : (call : Row) (o p : Option Row) → UnderIfSome call o → UnderIfSome call p → UnderIfSome call (join_option o p)
option-under call None p h k = k
option-under call (Some r) None h k = h
option-under call (Some r) (Some q) h k = (covers-two call r q h.0 k.0, least_row-IsCanonical r (q ∷ []))

left-covered : (r q : Row) → RowCovers (least_row r (q ∷ [])) r
left-covered r q = least_row-covers r (q ∷ []) r (inl refl) refl

pub right-covered : (call r q : Row) → IsUnder call r → IsUnder call q → RowCovers (least_row r (q ∷ [])) q
right-covered call r q h k = least_row-covers r (q ∷ []) q (inr (inl refl)) (sym (count-covers call q k.0) ∙ count-covers call r h.0)

pub through : (r q p : Row) → RowCovers r q → RowCovers q p → RowCovers r p
through r q p h k = covers_through (pattern_of r) (pattern_of q) (pattern_of p) h k

option-covers : (call : Row) (g h k l : Option Row) → UnderIfSome call h → UnderIfSome call l → CoversIfSome h g → CoversIfSome l k → CoversIfSome (join_option h l) (join_option g k)
option-covers call None h None l uh ul a b = tt
option-covers call None h (Some k) None uh ul a b = absurd b
option-covers call None None (Some k) (Some l) uh ul a b = b
option-covers call None (Some h) (Some k) (Some l) uh ul a b = through (least_row h (l ∷ [])) l k (right-covered call h l uh ul) b
option-covers call (Some g) None k l uh ul a b = absurd a
option-covers call (Some g) (Some h) None None uh ul a b = a
option-covers call (Some g) (Some h) None (Some l) uh ul a b = through (least_row h (l ∷ [])) h g (left-covered h l) a
option-covers call (Some g) (Some h) (Some k) None uh ul a b = absurd b
option-covers call (Some g) (Some h) (Some k) (Some l) uh ul a b =
    covers-two (least_row h (l ∷ [])) g k (through (least_row h (l ∷ [])) h g (left-covered h l) a) (through (least_row h (l ∷ [])) l k (right-covered call h l uh ul) b)

-- the only row
sole-again : (s : Sole) → join_sole s s ≡ s
sole-again no_row = refl
sole-again two_rows = refl
sole-again (one_row r) = one-same r

sole-turned : (s t : Sole) → join_sole s t ≡ join_sole t s
sole-turned no_row no_row = refl
sole-turned no_row two_rows = refl
sole-turned no_row (one_row q) = refl
sole-turned two_rows t = sym (sole-two t)
sole-turned (one_row r) no_row = refl
sole-turned (one_row r) two_rows = refl
sole-turned (one_row r) (one_row q) = elim (cases r q) [
  | inl e ↦ subst (λ x. join_sole (one_row r) (one_row x) ≡ join_sole (one_row x) (one_row r)) e refl
  | inr f ↦ elim (cases q r) [
    | inl e ↦ subst (λ x. join_sole (one_row x) (one_row q) ≡ join_sole (one_row q) (one_row x)) e refl
    | inr k ↦ one-differ r q f ∙ sym (one-differ q r k)
  ]
]

either : (call r : Row) (b : Bool) → IsUnder call r → UnderIfOne call (cond b (one_row r) two_rows)
either call r true h = h
either call r false h = tt

pub sole-under : (call : Row) (s t : Sole) → UnderIfOne call s → UnderIfOne call t → UnderIfOne call (join_sole s t)
sole-under call no_row t h k = k
sole-under call two_rows t h k = tt
sole-under call (one_row r) no_row h k = h
sole-under call (one_row r) two_rows h k = tt
sole-under call (one_row r) (one_row q) h k = either call r (same_row r q) h

or-again : (b : Bool) → (b || b) ≡ b
or-again true = refl
or-again false = refl

two : {A B C : Type 0} (f : A → B → C) (a b : A) (c d : B) → a ≡ b → c ≡ d → f a c ≡ f b d
two f a b c d e k = ap (λ x. f x c) e ∙ ap (f b) k

-- findings
pub join-unit : (m : Mode) (call : Row) (a : Finding) → Fits m call a → join_finding (finding m [] []) a ≡ a
join-unit most call (finds_most g h) f = refl
join-unit most call (finds_unique s b) f = absurd f
join-unit most call (finds_consistent c d) f = absurd f
join-unit unique call (finds_most g h) f = absurd f
join-unit unique call (finds_unique s b) f = refl
join-unit unique call (finds_consistent c d) f = absurd f
join-unit consistent call (finds_most g h) f = absurd f
join-unit consistent call (finds_unique s b) f = absurd f
join-unit consistent call (finds_consistent c d) f = refl

pub join-again : (m : Mode) (call : Row) (a : Finding) → Fits m call a → join_finding a a ≡ a
join-again most call (finds_most g h) f = two finds_most (join_option g g) g (join_option h h) h (option-again call g f.0) (option-again call h f.1)
join-again most call (finds_unique s b) f = absurd f
join-again most call (finds_consistent c d) f = absurd f
join-again unique call (finds_most g h) f = absurd f
join-again unique call (finds_unique s b) f = two finds_unique (join_sole s s) s (b || b) b (sole-again s) (or-again b)
join-again unique call (finds_consistent c d) f = absurd f
join-again consistent call (finds_most g h) f = absurd f
join-again consistent call (finds_unique s b) f = absurd f
join-again consistent call (finds_consistent c d) f = two finds_consistent (c || c) c (d || d) d (or-again c) (or-again d)

pub join-turned : (m : Mode) (call : Row) (a b : Finding) → Fits m call a → Fits m call b → join_finding a b ≡ join_finding b a
join-turned most call (finds_most g h) (finds_most k l) f e = two finds_most (join_option g k) (join_option k g) (join_option h l) (join_option l h) (option-turned call g k f.0 e.0) (option-turned call h l f.1 e.1)
join-turned most call (finds_most g h) (finds_unique s b) f e = absurd e
join-turned most call (finds_most g h) (finds_consistent c d) f e = absurd e
join-turned most call (finds_unique s b) y f e = absurd f
join-turned most call (finds_consistent c d) y f e = absurd f
join-turned unique call (finds_unique s b) (finds_unique t c) f e = two finds_unique (join_sole s t) (join_sole t s) (b || c) (c || b) (sole-turned s t) (or_comm b c)
join-turned unique call (finds_unique s b) (finds_most k l) f e = absurd e
join-turned unique call (finds_unique s b) (finds_consistent c d) f e = absurd e
join-turned unique call (finds_most g h) y f e = absurd f
join-turned unique call (finds_consistent c d) y f e = absurd f
join-turned consistent call (finds_consistent a b) (finds_consistent c d) f e = two finds_consistent (a || c) (c || a) (b || d) (d || b) (or_comm a c) (or_comm b d)
join-turned consistent call (finds_consistent a b) (finds_most k l) f e = absurd e
join-turned consistent call (finds_consistent a b) (finds_unique t c) f e = absurd e
join-turned consistent call (finds_most g h) y f e = absurd f
join-turned consistent call (finds_unique s b) y f e = absurd f

pub join-grouped : (m : Mode) (call : Row) (a b c : Finding) → Fits m call a → Fits m call b → Fits m call c → join_finding (join_finding a b) c ≡ join_finding a (join_finding b c)
join-grouped most call (finds_most g h) (finds_most k l) (finds_most n o) f e i =
    two finds_most (join_option (join_option g k) n) (join_option g (join_option k n)) (join_option (join_option h l) o) (join_option h (join_option l o)) (option-grouped call g k n f.0 e.0 i.0) (option-grouped call h l o f.1 e.1 i.1)
join-grouped most call (finds_most g h) (finds_most k l) (finds_unique s b) f e i = absurd i
join-grouped most call (finds_most g h) (finds_most k l) (finds_consistent c d) f e i = absurd i
join-grouped most call (finds_most g h) (finds_unique s b) z f e i = absurd e
join-grouped most call (finds_most g h) (finds_consistent c d) z f e i = absurd e
join-grouped most call (finds_unique s b) y z f e i = absurd f
join-grouped most call (finds_consistent c d) y z f e i = absurd f
join-grouped unique call (finds_unique s b) (finds_unique t c) (finds_unique u d) f e i = two finds_unique (join_sole (join_sole s t) u) (join_sole s (join_sole t u)) ((b || c) || d) (b || (c || d)) (sole-assoc s t u) (or_assoc b c d)
join-grouped unique call (finds_unique s b) (finds_unique t c) (finds_most k l) f e i = absurd i
join-grouped unique call (finds_unique s b) (finds_unique t c) (finds_consistent k l) f e i = absurd i
join-grouped unique call (finds_unique s b) (finds_most k l) z f e i = absurd e
join-grouped unique call (finds_unique s b) (finds_consistent c d) z f e i = absurd e
join-grouped unique call (finds_most g h) y z f e i = absurd f
join-grouped unique call (finds_consistent c d) y z f e i = absurd f
join-grouped consistent call (finds_consistent a b) (finds_consistent c d) (finds_consistent g h) f e i = two finds_consistent ((a || c) || g) (a || (c || g)) ((b || d) || h) (b || (d || h)) (or_assoc a c g) (or_assoc b d h)
join-grouped consistent call (finds_consistent a b) (finds_consistent c d) (finds_most k l) f e i = absurd i
join-grouped consistent call (finds_consistent a b) (finds_consistent c d) (finds_unique s t) f e i = absurd i
join-grouped consistent call (finds_consistent a b) (finds_most k l) z f e i = absurd e
join-grouped consistent call (finds_consistent a b) (finds_unique t c) z f e i = absurd e
join-grouped consistent call (finds_most g h) y z f e i = absurd f
join-grouped consistent call (finds_unique s b) y z f e i = absurd f

pub none-fits : (m : Mode) (call : Row) → Fits m call (finding m [] [])
none-fits most call = (tt, tt, tt)
none-fits unique call = tt
none-fits consistent call = tt

pub join-fits : (m : Mode) (call : Row) (a b : Finding) → Fits m call a → Fits m call b → Fits m call (join_finding a b)
join-fits most call (finds_most g h) (finds_most k l) f e = (option-under call g k f.0 e.0, option-under call h l f.1 e.1, option-covers call g h k l f.1 e.1 f.2 e.2)
join-fits most call (finds_most g h) (finds_unique s b) f e = absurd e
join-fits most call (finds_most g h) (finds_consistent c d) f e = absurd e
join-fits most call (finds_unique s b) y f e = absurd f
join-fits most call (finds_consistent c d) y f e = absurd f
join-fits unique call (finds_unique s b) (finds_unique t c) f e = sole-under call s t f e
join-fits unique call (finds_unique s b) (finds_most k l) f e = absurd e
join-fits unique call (finds_unique s b) (finds_consistent c d) f e = absurd e
join-fits unique call (finds_most g h) y f e = absurd f
join-fits unique call (finds_consistent c d) y f e = absurd f
join-fits consistent call (finds_consistent a b) (finds_consistent c d) f e = tt
join-fits consistent call (finds_consistent a b) (finds_most k l) f e = absurd e
join-fits consistent call (finds_consistent a b) (finds_unique t c) f e = absurd e
join-fits consistent call (finds_most g h) y f e = absurd f
join-fits consistent call (finds_unique s b) y f e = absurd f

-- what is settled stays settled
abbrev Stays : Row → Finding → Finding → Type 0
Stays call a b = (settled call b ≡ true) × (outcome call a ≡ outcome call b)

is_call_same : (call r h : Row) → same_row r call ≡ true → verdict_most call (Some r) (Some h) ≡ same
is_call_same call r h e = ap (λ b. cond b same (cond (same_row r h) (narrow r) unfinished)) e

is_call : (call r q : Row) → IsUnder call r → IsUnder call q → least_row r (q ∷ []) ≡ q → r ≡ call → q ≡ call
is_call call r q hr hq e c =
    covers_antisymmetric q call hq.1 (subst IsCanonical c hr.1) (subst (λ x. RowCovers q x) c (subst (λ x. RowCovers x r) e (left-covered r q))) hq.0

stays_most : (call : Row) (g h k l : Option Row) → Fits most call (finds_most g h) → Fits most call (finds_most k l) → join_option g k ≡ k → settled call (finds_most g h) ≡ true → Stays call (finds_most g h) (finds_most k l)
stays_most call None h k l f e j s = absurd (cc s)
stays_most call (Some r) None k l f e j s = absurd f.2
stays_most call (Some r) (Some h) None l f e j s = absurd (cc j)
stays_most call (Some r) (Some h) (Some q) None f e j s = absurd e.2
stays_most call (Some r) (Some h) (Some q) (Some l) f e j s =
    let i : least_row r (q ∷ []) ≡ q = cc j in
    let w : q ≡ call = is_call call r q f.0 e.0 i (same_row-sound r call s) in
    let z : same_row q call ≡ true = ap (λ x. same_row q x) (sym w) ∙ same_row-itself q in
    (z, is_call_same call r h s ∙ sym (is_call_same call q l z))

stays_unique : (call : Row) (s t : Sole) (b c : Bool) → join_sole s t ≡ t → settled call (finds_unique s b) ≡ true → Stays call (finds_unique s b) (finds_unique t c)
stays_unique call no_row t b c j s = absurd (cc s)
stays_unique call two_rows t b c j s = subst (λ x. Stays call (finds_unique two_rows b) (finds_unique x c)) j (refl, refl)
stays_unique call (one_row r) t b c j s = absurd (cc s)

stays_consistent : (call : Row) (a b c d : Bool) → (a || c) ≡ c → a ≡ true → Stays call (finds_consistent a b) (finds_consistent c d)
stays_consistent call true b c d j s = subst (λ x. Stays call (finds_consistent true b) (finds_consistent x d)) j (refl, refl)
stays_consistent call false b c d j s = absurd (cc s)

pub join-stays : (m : Mode) (call : Row) (a b : Finding) → Fits m call a → Fits m call b → join_finding a b ≡ b → settled call a ≡ true → Stays call a b
join-stays most call (finds_most g h) (finds_most k l) f e j s = stays_most call g h k l f e (cc j) s
join-stays most call (finds_most g h) (finds_unique t b) f e j s = absurd e
join-stays most call (finds_most g h) (finds_consistent c d) f e j s = absurd e
join-stays most call (finds_unique t b) y f e j s = absurd f
join-stays most call (finds_consistent c d) y f e j s = absurd f
join-stays unique call (finds_unique t b) (finds_unique u c) f e j s = stays_unique call t u b c (cc j) s
join-stays unique call (finds_unique t b) (finds_most k l) f e j s = absurd e
join-stays unique call (finds_unique t b) (finds_consistent c d) f e j s = absurd e
join-stays unique call (finds_most g h) y f e j s = absurd f
join-stays unique call (finds_consistent c d) y f e j s = absurd f
join-stays consistent call (finds_consistent a b) (finds_consistent c d) f e j s = stays_consistent call a b c d (cc j) s
join-stays consistent call (finds_consistent a b) (finds_most k l) f e j s = absurd e
join-stays consistent call (finds_consistent a b) (finds_unique t c) f e j s = absurd e
join-stays consistent call (finds_most g h) y f e j s = absurd f
join-stays consistent call (finds_unique t b) y f e j s = absurd f

pub empty_is_unit : EmptyIsUnit
empty_is_unit m call f h = let e = join-unit m call f h in (e, join-turned m call f (empty m) h (none-fits m call) ∙ e)
