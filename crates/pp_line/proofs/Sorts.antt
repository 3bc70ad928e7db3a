-- What a word of the command line is to clap.
use Rattle.std.proofs.Common.{◌≡◌, ◌∙◌, ap, sym, refl, arith, ℕ, suc, ◌+◌, take, drop, Bool, true, false, ◌==◌, cond, [], ◌∷◌, ◌++◌, Option, Some, None}
use Rattle.std.specs.Prelude.{codes, option_and_then}
use Rattle.std.specs.Cmp.{unsigned_Decides}
use Rattle.std.specs.List.{position_or_len}
use Rattle.std.specs.Str.{bytes_eq}
use Rattle.std.proofs.lemmas.Slice.Eq.{bytes_eq-Decides}
use Rattle.clap.specs.Lexer.{long_of, long_of_rest, has_byte, name_and_value, short_of, strip_byte}
use Rattle.clap.specs.Walk.{Held, Text, Waiting, idle, option, positional, arg_by_long}
use Rattle.clap.specs.Faults.{turn_fault}
use Rattle.clap.specs.declared.error.kind.ErrorKind.{ErrorKind}
use Rattle.clap.specs.declared.error.kind.ErrorKind.TheVariants as kind
use Rattle.pp_language.specs.Commands.{Setting, worker_count, look_ahead, search_depth, turn_count}
use Rattle.pp_line.proofs.Steps.{id_of, dashes, between, rules, shape, IsPlain}

abbrev pub joined : Text → Option Text → Text
joined n None = n
joined n (Some d) = n ++ 61 ∷ d

one_more : (x n : ℕ) (b : Bool) (xs : Text) → joined (take (1 + n) (x ∷ xs)) (cond b (Some (drop (1 + n + 1) (x ∷ xs))) None) ≡ x ∷ joined (take n xs) (cond b (Some (drop (n + 1) xs)) None)
one_more x n b xs =
    let first : 1 + n ≡ suc n = omega arith in
    let then : suc n + 1 ≡ suc (n + 1) = omega arith in
    rw (first, then) (over b)
  where
    over : (b : Bool) → joined (x ∷ take n xs) (cond b (Some (drop (n + 1) xs)) None) ≡ x ∷ joined (take n xs) (cond b (Some (drop (n + 1) xs)) None)
    over true = refl
    over false = refl

abbrev whole : Text → Text
whole t = joined (name_and_value t).0 (name_and_value t).1

parts : (t : Text) → whole t ≡ t
parts [] = refl
parts (x ∷ xs) =
    elim (x == 61) as (λ b. (x == 61) ≡ b → whole (x ∷ xs) ≡ x ∷ xs) [
      | true ↦ λ e. let same : x ≡ 61 = (unsigned_Decides x 61).0 e in rw e (ap (λ y. y ∷ xs) (sym same))
      | false ↦ λ e. rw e (one_more x (position_or_len (λ y. y == 61) xs) (has_byte 61 xs) xs ∙ ap (λ ys. x ∷ ys) (parts xs))
    ] refl

strip_is : (c : ℕ) (t r : Text) → strip_byte c t ≡ Some r → t ≡ c ∷ r
strip_is c [] r e = absurd (cc e)
strip_is c (x ∷ xs) r e =
    elim (x == c) as (λ b. (x == c) ≡ b → cond b (Some xs) None ≡ Some r → x ∷ xs ≡ c ∷ r) [
      | true ↦ λ s h. let same : x ≡ c = (unsigned_Decides x c).0 s in let rest : xs ≡ r = cc h in rw (same, rest) refl
      | false ↦ λ s h. absurd (cc h)
    ] refl e

opened : {A B : Type 0} (f : A → Option B) (o : Option A) (z : B) → option_and_then f o ≡ Some z → (y : A) × (o ≡ Some y) × (f y ≡ Some z)
opened f None z e = absurd (cc e)
opened f (Some y) z e = (y, refl, e)

rest_is : (t n : Text) (v : Option Text) → long_of_rest t ≡ Some (n, v) → t ≡ joined n v
rest_is [] n v e = absurd (cc e)
rest_is (x ∷ xs) n v e =
    let pair : name_and_value (x ∷ xs) ≡ (n, v) = cc e in
    sym (parts (x ∷ xs)) ∙ ap (λ (p : Text × Option Text). joined p.0 p.1) pair

long_is : (w n : Text) (v : Option Text) → long_of w ≡ Some (n, v) → w ≡ dashes (joined n v)
long_is w n v e =
    let a = opened long_of_rest (option_and_then (strip_byte 45) (strip_byte 45 w)) (n, v) e in
    let b = opened (strip_byte 45) (strip_byte 45 w) a.0 a.1 in
    strip_is 45 w b.0 b.1 ∙ ap (λ t. 45 ∷ t) (strip_is 45 b.0 a.0 b.2 ∙ ap (λ t. 45 ∷ t) (rest_is a.0 n v a.2))

data Named (n : Text) : Type 0 where
  of_setting : (s : Setting) → n ≡ id_of s → Named n
  of_trace : n ≡ codes "trace" → Named n
  of_none : arg_by_long rules n ≡ None → Named n

named : (n : Text) → Named n
named n =
    elim (bytes_eq (codes "workers") n) as (λ b. bytes_eq (codes "workers") n ≡ b → Named n) [
      | true ↦ λ e. of_setting worker_count (sym ((bytes_eq-Decides (codes "workers") n).0 e))
      | false ↦ λ a. elim (bytes_eq (codes "ahead") n) as (λ b. bytes_eq (codes "ahead") n ≡ b → Named n) [
        | true ↦ λ e. of_setting look_ahead (sym ((bytes_eq-Decides (codes "ahead") n).0 e))
        | false ↦ λ b. elim (bytes_eq (codes "depth") n) as (λ b. bytes_eq (codes "depth") n ≡ b → Named n) [
          | true ↦ λ e. of_setting search_depth (sym ((bytes_eq-Decides (codes "depth") n).0 e))
          | false ↦ λ c. elim (bytes_eq (codes "turns") n) as (λ b. bytes_eq (codes "turns") n ≡ b → Named n) [
            | true ↦ λ e. of_setting turn_count (sym ((bytes_eq-Decides (codes "turns") n).0 e))
            | false ↦ λ d. elim (bytes_eq (codes "trace") n) as (λ b. bytes_eq (codes "trace") n ≡ b → Named n) [
              | true ↦ λ e. of_trace (sym ((bytes_eq-Decides (codes "trace") n).0 e))
              | false ↦ λ e. of_none (rw (a, b, c, d, e) refl)
            ] refl
          ] refl
        ] refl
      ] refl
    ] refl

-- the word is no `--`, and begins with no single hyphen
abbrev pub IsOpen : Text → Type 0
IsOpen w = (bytes_eq w (45 ∷ 45 ∷ []) ≡ false) × (short_of w ≡ None)

pub data Sort (w : Text) : Type 0 where
  plain : IsPlain w → Sort w
  name : (s : Setting) → w ≡ dashes (id_of s) → Sort w
  assigned : (s : Setting) (d : Text) → w ≡ dashes (id_of s ++ 61 ∷ d) → Sort w
  trace : w ≡ dashes (codes "trace") → Sort w
  refused : (k : ErrorKind) → ((h : Held) (waiting : Waiting) → turn_fault shape [] (between h waiting) w ≡ k ∷ []) → Sort w

trace_value_fault : (d : Text) (h : Held) (waiting : Waiting) → turn_fault shape [] (between h waiting) (dashes (codes "trace" ++ 61 ∷ d)) ≡ kind.TooManyValues ∷ []
trace_value_fault d h idle = refl
trace_value_fault d h (option id) = refl
trace_value_fault d h positional = refl

unknown_fault : (w n : Text) (v : Option Text) (h : Held) (waiting : Waiting) → bytes_eq w (45 ∷ 45 ∷ []) ≡ false → long_of w ≡ Some (n, v) → arg_by_long rules n ≡ None → turn_fault shape [] (between h waiting) w ≡ kind.UnknownArgument ∷ []
unknown_fault w n v h idle a b c = rw (a, b, c) refl
unknown_fault w n v h (option id) a b c = rw (a, b, c) refl
unknown_fault w n v h positional a b c = rw (a, b, c) refl

named_sort : (w n : Text) (v : Option Text) → IsOpen w → long_of w ≡ Some (n, v) → Named n → Sort w
named_sort w n None o l (of_setting s e) = name s (long_is w n None l ∙ ap dashes e)
named_sort w n (Some d) o l (of_setting s e) = assigned s d (long_is w n (Some d) l ∙ ap (λ t. dashes (t ++ 61 ∷ d)) e)
named_sort w n None o l (of_trace e) = trace (long_is w n None l ∙ ap dashes e)
named_sort w n (Some d) o l (of_trace e) =
    let is : w ≡ dashes (codes "trace" ++ 61 ∷ d) = long_is w n (Some d) l ∙ ap (λ t. dashes (t ++ 61 ∷ d)) e in
    refused kind.TooManyValues (λ h waiting. ap (λ x. turn_fault shape [] (between h waiting) x) is ∙ trace_value_fault d h waiting)
named_sort w n v o l (of_none e) = refused kind.UnknownArgument (λ h waiting. unknown_fault w n v h waiting o.0 l e)

pub sort_of : (w : Text) → IsOpen w → Sort w
sort_of w o =
    elim (long_of w) as (λ l. long_of w ≡ l → Sort w) [
      | None ↦ λ l. plain (record { dashed = o.0; long = l; short = o.1 })
      | Some p ↦ λ l. named_sort w p.0 p.1 o l (named p.0)
    ] refl
