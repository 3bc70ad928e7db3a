-- Words that are left to clap, by their test.
use Rattle.std.proofs.Common.{◌≡◌, ◌∙◌, ap, sym, refl, inl, inr, true, false, ◌&&◌, not, cond, nat_eq, List, [], ◌∷◌, ◌++◌, Option, Some, None}
use Rattle.std.specs.Prelude.{codes, is_some, option_and_then}
use Rattle.std.specs.List.{list_all}
use Rattle.std.specs.Str.{bytes_eq}
use Rattle.std.proofs.lemmas.Bool.{and_parts, not-true}
use Rattle.clap.specs.Lexer.{short_of, short_of_rest}
use Rattle.pp_language.specs.Texts.{Text}
use Rattle.pp_language.specs.Commands.{Setting, worker_count, look_ahead, search_depth, turn_count}
use Rattle.pp_line.specs.Kept.{is_short, is_open}
use Rattle.pp_line.proofs.Steps.{id_of, dashes, IsPlain, Raw, valued, traced, bare, AreRaws}
use Rattle.pp_line.proofs.Sorts.{IsOpen}
use Rattle.pp_line.proofs.Taken.{AreOpen}

short_is : (w : Text) → is_some (short_of w) ≡ is_short w
short_is [] = refl
short_is (a ∷ []) = elim (nat_eq a 45) as (λ v. is_some (option_and_then short_of_rest (cond v (Some []) None)) ≡ false) [ true ↦ refl | false ↦ refl ]
short_is (a ∷ b ∷ more) =
    elim (nat_eq a 45) as (λ v. is_some (option_and_then short_of_rest (cond v (Some (b ∷ more)) None)) ≡ (v && not (nat_eq b 45))) [
      | true ↦ elim (nat_eq b 45) as (λ v. is_some (cond v None (Some (b ∷ more))) ≡ not v) [ true ↦ refl | false ↦ refl ]
      | false ↦ refl
    ]

none_is : {A : Type 0} (o : Option A) → is_some o ≡ false → o ≡ None
none_is None h = refl
none_is (Some x) h = absurd (cc h)

pub open_is : (w : Text) → is_open w ≡ true → IsOpen w
open_is w h =
    let p = and_parts (not (bytes_eq w (codes "--"))) (not (is_short w)) h in
    (not-true (bytes_eq w (codes "--")) p.0, none_is (short_of w) (short_is w ∙ not-true (is_short w) p.1))

pub is_open_of : (w : Text) → IsOpen w → is_open w ≡ true
is_open_of w o =
    let dashed : bytes_eq w (codes "--") ≡ false = o.0 in
    let short : is_short w ≡ false = sym (short_is w) ∙ ap is_some o.1 in
    rw (dashed, short) refl

pub all_open : (ws : List Text) → list_all is_open ws ≡ true → AreOpen ws
all_open [] h = tt
all_open (w ∷ ws) h = let p = and_parts (is_open w) (list_all is_open ws) h in (open_is w p.0, all_open ws p.1)

open_both : (w : Text) (ws : List Text) → is_open w ≡ true → list_all is_open ws ≡ true → list_all is_open (w ∷ ws) ≡ true
open_both w ws a b = ap (λ v. v && list_all is_open ws) a ∙ b

plain_open : (w : Text) → IsPlain w → is_open w ≡ true
plain_open w p = is_open_of w (p.dashed, p.short)

name_open : (s : Setting) → is_open (dashes (id_of s)) ≡ true
name_open worker_count = refl
name_open look_ahead = refl
name_open search_depth = refl
name_open turn_count = refl

assigned_open : (s : Setting) (d : Text) → is_open (dashes (id_of s ++ 61 ∷ d)) ≡ true
assigned_open worker_count d = refl
assigned_open look_ahead d = refl
assigned_open search_depth d = refl
assigned_open turn_count d = refl

-- entries are left to clap
pub raws_open : (ws : List Text) (rs : List Raw) → AreRaws ws rs → list_all is_open ws ≡ true
raws_open ws [] e = ap (list_all is_open) e
raws_open ws (valued s t ∷ rs) (first, rest, e, inl (g, p), later) =
    rw (e, g) (open_both (dashes (id_of s)) (t ∷ rest) (name_open s) (open_both t rest (plain_open t p) (raws_open rest rs later)))
raws_open ws (valued s t ∷ rs) (first, rest, e, inr g, later) = rw (e, g) (open_both (dashes (id_of s ++ 61 ∷ t)) rest (assigned_open s t) (raws_open rest rs later))
raws_open ws (traced ∷ rs) (first, rest, e, g, later) = rw (e, g) (open_both (dashes (codes "trace")) rest refl (raws_open rest rs later))
raws_open ws (bare t ∷ rs) (first, rest, e, (g, p), later) = rw (e, g) (open_both t rest (plain_open t p) (raws_open rest rs later))
