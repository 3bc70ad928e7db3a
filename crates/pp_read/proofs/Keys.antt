-- The variables of a sentence, the named ones first, and their numbers.
use Rattle.std.proofs.Common.{◌≡◌, ℕ, zero, suc, ◌+◌, ◌<◌, ◌≤◌, Bool, true, false, not, ◌||◌, cond, List, [], ◌∷◌, ◌++◌, length, map, refl, ap, sym, ◌∙◌, subst, arith, append_assoc, append-nil, length-append}
use Rattle.std.specs.Prelude.{filter}
use Rattle.std.proofs.lemmas.Bool.{eq-eqb, ne_eqb, or_parts}
use Rattle.std.proofs.lemmas.List.Elements.{filter-append}
use Rattle.pp_algebra.specs.Canon.{has, place, firsts}
use Rattle.pp_language.specs.Texts.{Text}
use Rattle.pp_algebra.specs.Texts.{same_text}
use Rattle.pp_language.specs.Keys.{Key, named, unnamed, same_key, is_named, named_first, texts_of}

abbrev pub no_name : Key → Bool
no_name k = not (is_named k)

-- the keys of `_` from place n on, so many
abbrev pub blank_keys : ℕ → ℕ → List Key
blank_keys n zero = []
blank_keys n (suc m) = unnamed n ∷ blank_keys (suc n) m

pub blank_keys-append : (n a b : ℕ) → blank_keys n a ++ blank_keys (n + a) b ≡ blank_keys n (a + b)
blank_keys-append n zero b = let e : n + 0 ≡ n = omega arith in let f : 0 + b ≡ b = omega arith in ap (λ k. blank_keys k b) e ∙ ap (blank_keys n) (sym f)
blank_keys-append n (suc a) b =
    let e : n + suc a ≡ suc n + a = omega arith in
    let f : suc a + b ≡ suc (a + b) = omega arith in
    ap (λ k. unnamed n ∷ (blank_keys (suc n) a ++ blank_keys k b)) e ∙ ap (λ ks. unnamed n ∷ ks) (blank_keys-append (suc n) a b) ∙ ap (blank_keys n) (sym f)

-- ===== the named ones

pub texts_of-append : (ks hs : List Key) → texts_of (ks ++ hs) ≡ texts_of ks ++ texts_of hs
texts_of-append [] hs = refl
texts_of-append (named x ∷ ks) hs = ap (λ xs. x ∷ xs) (texts_of-append ks hs)
texts_of-append (unnamed j ∷ ks) hs = texts_of-append ks hs

has-named : (ks : List Key) (x : Text) → has same_key ks (named x) ≡ has same_text (texts_of ks) x
has-named [] x = refl
has-named (named y ∷ ks) x = ap (λ b. same_text y x || b) (has-named ks x)
has-named (unnamed j ∷ ks) x = has-named ks x

filter-named : (ks : List Key) → filter is_named ks ≡ map named (texts_of ks)
filter-named [] = refl
filter-named (named x ∷ ks) = ap (λ hs. named x ∷ hs) (filter-named ks)
filter-named (unnamed j ∷ ks) = filter-named ks

named_part : (seen ks : List Key) → filter is_named (firsts same_key seen ks) ≡ map named (firsts same_text (texts_of seen) (texts_of ks))
named_part seen [] = filter-named seen
named_part seen (named x ∷ ks) =
    ap (λ b. filter is_named (cond b (firsts same_key seen ks) (firsts same_key (seen ++ named x ∷ []) ks))) (has-named seen x)
    ∙ elim (has same_text (texts_of seen) x) as (λ b. filter is_named (cond b (firsts same_key seen ks) (firsts same_key (seen ++ named x ∷ []) ks)) ≡ map named (cond b (firsts same_text (texts_of seen) (texts_of ks)) (firsts same_text (texts_of seen ++ x ∷ []) (texts_of ks)))) [
      | true ↦ named_part seen ks
      | false ↦ named_part (seen ++ named x ∷ []) ks ∙ ap (λ xs. map named (firsts same_text xs (texts_of ks))) (texts_of-append seen (named x ∷ []))
    ]
named_part seen (unnamed j ∷ ks) =
    elim (has same_key seen (unnamed j)) as (λ b. filter is_named (cond b (firsts same_key seen ks) (firsts same_key (seen ++ unnamed j ∷ []) ks)) ≡ map named (firsts same_text (texts_of seen) (texts_of ks))) [
      | true ↦ named_part seen ks
      | false ↦ named_part (seen ++ unnamed j ∷ []) ks ∙ ap (λ xs. map named (firsts same_text xs (texts_of ks))) (texts_of-append seen (unnamed j ∷ []) ∙ append-nil (texts_of seen))
    ]

-- ===== the `_`

-- no `_` from place n on was seen
abbrev IsFresh : ℕ → List Key → Type 0
IsFresh n seen = (j : ℕ) → n ≤ j → has same_key seen (unnamed j) ≡ false

has-push : (seen : List Key) (k h : Key) → has same_key seen h ≡ false → same_key k h ≡ false → has same_key (seen ++ k ∷ []) h ≡ false
has-push [] k h e f = ap (λ b. b || false) f
has-push (x ∷ seen) k h e f = let p = or_parts (same_key x h) (has same_key seen h) e in ap (λ b. b || has same_key (seen ++ k ∷ []) h) p.0 ∙ has-push seen k h p.1 f

fresh_named : (n : ℕ) (seen : List Key) (x : Text) → IsFresh n seen → IsFresh n (seen ++ named x ∷ [])
fresh_named n seen x f = λ j l. has-push seen (named x) (unnamed j) (f j l) refl

fresh_unnamed : (n : ℕ) (seen : List Key) → IsFresh n seen → IsFresh (suc n) (seen ++ unnamed n ∷ [])
fresh_unnamed n seen f = λ j l. has-push seen (unnamed n) (unnamed j) (f j (omega arith)) (ne_eqb n j (λ e. omega arith))

unnamed_part : (seen ks : List Key) (n m : ℕ) → IsFresh n seen → filter no_name ks ≡ blank_keys n m → filter no_name (firsts same_key seen ks) ≡ filter no_name seen ++ blank_keys n m
unnamed_part seen [] n m f h = sym (append-nil (filter no_name seen)) ∙ ap (λ ks. filter no_name seen ++ ks) h
unnamed_part seen (named x ∷ ks) n m f h =
    elim (has same_key seen (named x)) as (λ b. filter no_name (cond b (firsts same_key seen ks) (firsts same_key (seen ++ named x ∷ []) ks)) ≡ filter no_name seen ++ blank_keys n m) [
      | true ↦ unnamed_part seen ks n m f h
      | false ↦ unnamed_part (seen ++ named x ∷ []) ks n m (fresh_named n seen x f) h ∙ ap (λ hs. hs ++ blank_keys n m) (filter-append no_name seen (named x ∷ []) ∙ append-nil (filter no_name seen))
    ]
unnamed_part seen (unnamed j ∷ ks) n zero f h = absurd (cc)
unnamed_part seen (unnamed j ∷ ks) n (suc m) f h =
    let e : n ≡ j = cc in
    let r : filter no_name ks ≡ blank_keys (suc n) m = cc in
    subst (λ i. filter no_name (firsts same_key seen (unnamed i ∷ ks)) ≡ filter no_name seen ++ (unnamed n ∷ blank_keys (suc n) m)) e (
    ap (λ b. filter no_name (cond b (firsts same_key seen ks) (firsts same_key (seen ++ unnamed n ∷ []) ks))) (f n (omega arith))
    ∙ unnamed_part (seen ++ unnamed n ∷ []) ks (suc n) m (fresh_unnamed n seen f) r
    ∙ ap (λ hs. hs ++ blank_keys (suc n) m) (filter-append no_name seen (unnamed n ∷ []))
    ∙ append_assoc (filter no_name seen) (unnamed n ∷ []) (blank_keys (suc n) m)
    )

-- ===== all of them

abbrev pub keys_by : List Text → ℕ → List Key
keys_by xs m = map named xs ++ blank_keys 0 m

pub named_first-is : (ks : List Key) (m : ℕ) → filter no_name ks ≡ blank_keys 0 m → named_first (firsts same_key [] ks) ≡ keys_by (firsts same_text [] (texts_of ks)) m
named_first-is ks m h =
    ap (λ hs. hs ++ filter no_name (firsts same_key [] ks)) (named_part [] ks)
    ∙ ap (λ hs. map named (firsts same_text [] (texts_of ks)) ++ hs) (unnamed_part [] ks 0 m (λ j l. refl) h)

texts_of-map : (xs : List Text) → texts_of (map named xs) ≡ xs
texts_of-map [] = refl
texts_of-map (x ∷ xs) = ap (λ ys. x ∷ ys) (texts_of-map xs)

texts_of-blanks : (n m : ℕ) → texts_of (blank_keys n m) ≡ []
texts_of-blanks n zero = refl
texts_of-blanks n (suc m) = texts_of-blanks (suc n) m

pub texts_of-keys : (xs : List Text) (m : ℕ) → texts_of (keys_by xs m) ≡ xs
texts_of-keys xs m = texts_of-append (map named xs) (blank_keys 0 m) ∙ ap (λ ys. texts_of (map named xs) ++ ys) (texts_of-blanks 0 m) ∙ append-nil (texts_of (map named xs)) ∙ texts_of-map xs

named-length : (xs : List Text) → length (map named xs) ≡ length xs
named-length [] = refl
named-length (x ∷ xs) = ap suc (named-length xs)

blanks-length : (n m : ℕ) → length (blank_keys n m) ≡ m
blanks-length n zero = refl
blanks-length n (suc m) = ap suc (blanks-length (suc n) m)

pub keys-length : (xs : List Text) (m : ℕ) → length (keys_by xs m) ≡ length xs + m
keys-length xs m = omega (arith, length-append (map named xs) (blank_keys 0 m), named-length xs, blanks-length 0 m)

split-length : (f : Key → Bool) (ks : List Key) → length (filter f ks) + length (filter (λ k. not (f k)) ks) ≡ length ks
split-length f [] = omega arith
split-length f (k ∷ ks) = elim (f k) as (λ b. length (cond b (k ∷ filter f ks) (filter f ks)) + length (cond (not b) (k ∷ filter (λ h. not (f h)) ks) (filter (λ h. not (f h)) ks)) ≡ suc (length ks)) [ true ↦ omega (arith, split-length f ks) | false ↦ omega (arith, split-length f ks) ]

pub named_first-length : (ks : List Key) → length (named_first ks) ≡ length ks
named_first-length ks = length-append (filter is_named ks) (filter no_name ks) ∙ split-length is_named ks

-- ===== the numbers

pub place-named : (xs : List Text) (hs : List Key) (x : Text) → has same_text xs x ≡ true → place same_key (map named xs ++ hs) (named x) ≡ place same_text xs x
place-named [] hs x h = absurd (cc)
place-named (y ∷ xs) hs x h = elim (same_text y x) as (λ b. (b || has same_text xs x) ≡ true → cond b 0 (suc (place same_key (map named xs ++ hs) (named x))) ≡ cond b 0 (suc (place same_text xs x))) [ true ↦ λ h. refl | false ↦ λ h. ap suc (place-named xs hs x h) ] h

place-behind : (xs : List Text) (hs : List Key) (i : ℕ) → place same_key (map named xs ++ hs) (unnamed i) ≡ length xs + place same_key hs (unnamed i)
place-behind [] hs i = omega arith
place-behind (x ∷ xs) hs i = omega (arith, place-behind xs hs i)

place-blank : (n m i : ℕ) → i < m → place same_key (blank_keys n m) (unnamed (n + i)) ≡ i
place-blank n zero i l = absurd (omega arith)
place-blank n (suc m) zero l = let e : n ≡ n + 0 = omega arith in ap (λ b. cond b 0 (suc (place same_key (blank_keys (suc n) m) (unnamed (n + 0))))) (eq-eqb n (n + 0) e)
place-blank n (suc m) (suc i) l =
    let e : n + suc i ≡ suc n + i = omega arith in
    ap (λ b. cond b 0 (suc (place same_key (blank_keys (suc n) m) (unnamed (n + suc i))))) (ne_eqb n (n + suc i) (λ q. omega arith))
    ∙ ap (λ k. suc (place same_key (blank_keys (suc n) m) (unnamed k))) e ∙ ap suc (place-blank (suc n) m i (omega arith))

pub place-unnamed : (xs : List Text) (m i : ℕ) → i < m → place same_key (keys_by xs m) (unnamed i) ≡ length xs + i
place-unnamed xs m i l =
    let e : 0 + i ≡ i = omega arith in
    place-behind xs (blank_keys 0 m) i ∙ ap (λ k. length xs + place same_key (blank_keys 0 m) (unnamed k)) (sym e) ∙ ap (λ k. length xs + k) (place-blank 0 m i l)
