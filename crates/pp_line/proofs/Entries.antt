-- Entries whose values are numbers.
use Rattle.std.proofs.Common.{◌≡◌, ◌∙◌, ap, sym, refl, arith, inl, inr, suc, Bool, true, false, IsTrue, ◌&&◌, cond, nat_eq, nat_le, List, [], ◌∷◌, ◌++◌, map, length}
use Rattle.std.specs.Prelude.{codes}
use Rattle.std.specs.List.{list_all}
use Rattle.std.proofs.lemmas.Bool.{and_parts}
use Rattle.pp_language.specs.declared.command.CommandKind.{CommandKind}
use Rattle.pp_language.specs.Texts.{Text, is_digit, is_between}
use Rattle.pp_language.specs.Kinds.{value_of}
use Rattle.pp_language.specs.declared.limits.TheConstants.{MAKE_LIMIT}
use Rattle.pp_language.specs.Commands.{Setting, worker_count, look_ahead, search_depth, turn_count, same_setting, option_name, is_number, Entry, sets, traces, counts, AreEntries, values, trace_count, numbers, is_allowed, has_setting, has_trace, greatest_value}
use Rattle.pp_line.proofs.Steps.{IsPlain, Raw, valued, traced, bare, AreRaws, dashes, id_of}
use Rattle.pp_line.proofs.Ends.{given, bares, traces as traced_texts}

-- all that is to be a number is one
abbrev pub AreNumbers : List Raw → Type 0
AreNumbers [] = Unit {0}
AreNumbers (valued s t ∷ rs) = IsTrue (is_number t) × AreNumbers rs
AreNumbers (traced ∷ rs) = AreNumbers rs
AreNumbers (bare t ∷ rs) = IsTrue (is_number t) × AreNumbers rs

abbrev pub entry_by : Raw → Entry
entry_by (valued s t) = sets s (value_of 0 t)
entry_by traced = traces
entry_by (bare t) = counts (value_of 0 t)

abbrev pub entries_by : List Raw → List Entry
entries_by rs = map entry_by rs

named : (s : Setting) → dashes (id_of s) ≡ option_name s
named worker_count = refl
named look_ahead = refl
named search_depth = refl
named turn_count = refl

assigned : (s : Setting) (t : Text) → dashes (id_of s ++ 61 ∷ t) ≡ option_name s ++ codes "=" ++ t
assigned worker_count t = refl
assigned look_ahead t = refl
assigned search_depth t = refl
assigned turn_count t = refl

pub made : (ws : List Text) (rs : List Raw) → AreRaws ws rs → AreNumbers rs → AreEntries ws (entries_by rs)
made ws [] e n = e
made ws (valued s t ∷ rs) (first, rest, e, inl g, later) n = (first, rest, e, (t, (n.0, refl), inl (g.0 ∙ ap (λ x. x ∷ t ∷ []) (named s))), made rest rs later n.1)
made ws (valued s t ∷ rs) (first, rest, e, inr g, later) n = (first, rest, e, (t, (n.0, refl), inr (g ∙ ap (λ x. x ∷ []) (assigned s t))), made rest rs later n.1)
made ws (traced ∷ rs) (first, rest, e, g, later) n = (first, rest, e, g, made rest rs later n)
made ws (bare t ∷ rs) (first, rest, e, g, later) n = (first, rest, e, (t, (n.0, refl), g.0), made rest rs later n.1)

-- a number is no flag
plain_number : (d : Text) → IsTrue (is_number d) → IsPlain d
plain_number [] h = absurd (cc h)
plain_number (b ∷ bs) h =
    let digit : is_digit b ≡ true = grind (arith, h) in
    let other : nat_eq b 45 ≡ false = grind (arith, digit) in
    record { dashed = rw other refl; long = rw other refl; short = rw other refl }

pub unmade : (ws : List Text) (es : List Entry) → AreEntries ws es → (rs : List Raw) × AreRaws ws rs × AreNumbers rs × (entries_by rs ≡ es)
unmade ws [] e = ([], e, tt, refl)
unmade ws (sets s n ∷ es) (first, rest, e, (t, number, inl g), later) =
    let r = unmade rest es later in
    (valued s t ∷ r.0, (first, rest, e, inl (g ∙ ap (λ x. x ∷ t ∷ []) (sym (named s)), plain_number t number.0), r.1), (number.0, r.2), ap (λ m. sets s m ∷ entries_by r.0) number.1 ∙ ap (λ xs. sets s n ∷ xs) r.3)
unmade ws (sets s n ∷ es) (first, rest, e, (t, number, inr g), later) =
    let r = unmade rest es later in
    (valued s t ∷ r.0, (first, rest, e, inr (g ∙ ap (λ x. x ∷ []) (sym (assigned s t))), r.1), (number.0, r.2), ap (λ m. sets s m ∷ entries_by r.0) number.1 ∙ ap (λ xs. sets s n ∷ xs) r.3)
unmade ws (traces ∷ es) (first, rest, e, g, later) =
    let r = unmade rest es later in
    (traced ∷ r.0, (first, rest, e, g, r.1), r.2, ap (λ xs. traces ∷ xs) r.3)
unmade ws (counts n ∷ es) (first, rest, e, (t, number, g), later) =
    let r = unmade rest es later in
    (bare t ∷ r.0, (first, rest, e, (g, plain_number t number.0), r.1), (number.0, r.2), ap (λ m. counts m ∷ entries_by r.0) number.1 ∙ ap (λ xs. counts n ∷ xs) r.3)

-- what the entries give, by the texts
pub values_by : (s : Setting) (rs : List Raw) → values s (entries_by rs) ≡ map (value_of 0) (given s rs)
values_by s [] = refl
values_by s (valued t v ∷ rs) =
    elim (same_setting s t) as (λ b. cond b (value_of 0 v ∷ values s (entries_by rs)) (values s (entries_by rs)) ≡ map (value_of 0) (cond b (v ∷ given s rs) (given s rs))) [
      | true ↦ ap (λ ns. value_of 0 v ∷ ns) (values_by s rs)
      | false ↦ values_by s rs
    ]
values_by s (traced ∷ rs) = values_by s rs
values_by s (bare v ∷ rs) = values_by s rs

pub numbers_by : (rs : List Raw) → numbers (entries_by rs) ≡ map (value_of 0) (bares rs)
numbers_by [] = refl
numbers_by (valued t v ∷ rs) = numbers_by rs
numbers_by (traced ∷ rs) = numbers_by rs
numbers_by (bare v ∷ rs) = ap (λ ns. value_of 0 v ∷ ns) (numbers_by rs)

pub traces_by : (rs : List Raw) → trace_count (entries_by rs) ≡ length (traced_texts rs)
traces_by [] = refl
traces_by (valued t v ∷ rs) = traces_by rs
traces_by (traced ∷ rs) = omega (arith, traces_by rs)
traces_by (bare v ∷ rs) = traces_by rs

-- if the texts under each name are numbers, all are
fewer : (p : Text → Bool) (b : Bool) (v : Text) (vs : List Text) → list_all p (cond b (v ∷ vs) vs) ≡ true → list_all p vs ≡ true
fewer p true v vs h = (and_parts (p v) (list_all p vs) h).1
fewer p false v vs h = h

first_number : (s : Setting) (v : Text) (vs : List Text) → list_all is_number (cond (same_setting s s) (v ∷ vs) vs) ≡ true → is_number v ≡ true
first_number worker_count v vs h = (and_parts (is_number v) (list_all is_number vs) h).0
first_number look_ahead v vs h = (and_parts (is_number v) (list_all is_number vs) h).0
first_number search_depth v vs h = (and_parts (is_number v) (list_all is_number vs) h).0
first_number turn_count v vs h = (and_parts (is_number v) (list_all is_number vs) h).0

pub all_numbers : (rs : List Raw) → ((s : Setting) → list_all is_number (given s rs) ≡ true) → list_all is_number (bares rs) ≡ true → AreNumbers rs
all_numbers [] g b = tt
all_numbers (valued t v ∷ rs) g b = (first_number t v (given t rs) (g t), all_numbers rs (λ s. fewer is_number (same_setting s t) v (given s rs) (g s)) b)
all_numbers (traced ∷ rs) g b = all_numbers rs g b
all_numbers (bare v ∷ rs) g b = let p = and_parts (is_number v) (list_all is_number (bares rs)) b in (p.0, all_numbers rs g p.1)

-- and the other way
pub given_numbers : (s : Setting) (rs : List Raw) → AreNumbers rs → list_all is_number (given s rs) ≡ true
given_numbers s [] n = refl
given_numbers s (valued t v ∷ rs) n =
    elim (same_setting s t) as (λ b. list_all is_number (cond b (v ∷ given s rs) (given s rs)) ≡ true) [
      | true ↦ let first : is_number v ≡ true = n.0 in rw first (given_numbers s rs n.1)
      | false ↦ given_numbers s rs n.1
    ]
given_numbers s (traced ∷ rs) n = given_numbers s rs n
given_numbers s (bare v ∷ rs) n = given_numbers s rs n.1

pub bare_numbers : (rs : List Raw) → AreNumbers rs → list_all is_number (bares rs) ≡ true
bare_numbers [] n = refl
bare_numbers (valued t v ∷ rs) n = bare_numbers rs n.1
bare_numbers (traced ∷ rs) n = bare_numbers rs n
bare_numbers (bare v ∷ rs) n = let first : is_number v ≡ true = n.0 in rw first (bare_numbers rs n.1)

-- entries are allowed by what they give
pub all_allowed : (kind : CommandKind) (es : List Entry) → ((s : Setting) → list_all (λ n. has_setting kind s && is_between 1 (greatest_value s) n) (values s es) ≡ true)
    → nat_le (trace_count es) (cond (has_trace kind) (trace_count es) 0) ≡ true → list_all (is_between 1 MAKE_LIMIT) (numbers es) ≡ true → list_all (is_allowed kind) es ≡ true
all_allowed kind [] g t b = refl
all_allowed kind (sets s n ∷ es) g t b =
    let here : (has_setting kind s && is_between 1 (greatest_value s) n) ≡ true = first_allowed s (g s) in
    rw here (all_allowed kind es (λ x. others x (same_setting x s) (g x)) t b)
  where
    first_allowed : (s : Setting) → list_all (λ n. has_setting kind s && is_between 1 (greatest_value s) n) (cond (same_setting s s) (n ∷ values s es) (values s es)) ≡ true → (has_setting kind s && is_between 1 (greatest_value s) n) ≡ true
    first_allowed worker_count h = (and_parts _ _ h).0
    first_allowed look_ahead h = (and_parts _ _ h).0
    first_allowed search_depth h = (and_parts _ _ h).0
    first_allowed turn_count h = (and_parts _ _ h).0

    others : (x : Setting) (v : Bool) → list_all (λ m. has_setting kind x && is_between 1 (greatest_value x) m) (cond v (n ∷ values x es) (values x es)) ≡ true → list_all (λ m. has_setting kind x && is_between 1 (greatest_value x) m) (values x es) ≡ true
    others x true h = (and_parts _ _ h).1
    others x false h = h
all_allowed kind (traces ∷ es) g t b =
    elim (has_trace kind) as (λ v. has_trace kind ≡ v → nat_le (suc (trace_count es)) (cond v (suc (trace_count es)) 0) ≡ true → list_all (is_allowed kind) (traces ∷ es) ≡ true) [
      | true ↦ λ e h. let same : nat_le (trace_count es) (trace_count es) ≡ true = grind arith in rw e (all_allowed kind es g (rw e same) b)
      | false ↦ λ e h. let bad : suc (trace_count es) ≡ 0 = grind (arith, h) in absurd (omega arith)
    ] refl t
all_allowed kind (counts n ∷ es) g t b =
    let p = and_parts (is_between 1 MAKE_LIMIT n) (list_all (is_between 1 MAKE_LIMIT) (numbers es)) b in
    rw p.0 (all_allowed kind es g t p.1)
