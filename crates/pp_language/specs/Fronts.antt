-- What parts begin with, read from the left: marks, terms, bounds, sets and items.
use Rattle.std.specs.Prelude.{Bool, true, false, cond, List, [], ◌∷◌, drop, Option, Some, None, codes}
use Rattle.pp_algebra.specs.Texts.{same_text}
use Rattle.pp_sld.specs.Verdicts.{Mode, most, unique, consistent}
use Rattle.pp_language.specs.declared.token.Kind.{Kind}
use Rattle.pp_language.specs.declared.token.Kind.TheVariants.{Atom, Comma, Infers, OpenSquare, CloseSquare, Range, Equals, InDomain}
use Rattle.pp_language.specs.Texts.{Text}
use Rattle.pp_language.specs.Phrases.{Phrase, integer_phrase, said, no_phrases, Part, term_part, mark}
use Rattle.pp_language.specs.Statements.{Bounds, one_bound, two_bounds, SetPhrase, bare, bracketed, Item, calls, equates, belongs, compares, asks, is_comparison}

-- what is read in front, and the parts behind it
abbrev pub Front : Type 0 → Type 0
Front I = Option (I × List Part)

abbrev pub front_as : {I J : Type 0} → (I → J) → Front I → Front J
front_as f None = None
front_as f (Some r) = Some (f r.0, r.1)

abbrev pub mark_in : List Part → Option Kind
mark_in (mark k ∷ ps) = Some k
mark_in ps = None

abbrev pub integer_in : List Part → Option Text
integer_in (term_part (integer_phrase bs) ∷ ps) = Some bs
integer_in ps = None

abbrev pub has_term : List Part → Bool
has_term (term_part p ∷ ps) = true
has_term ps = false

abbrev pub has_callable : List Part → Bool
has_callable (term_part (said w us) ∷ ps) = true
has_callable ps = false

-- ===== bounds

-- the integer behind `..`
abbrev pub upper_in : List Part → Option Text
upper_in (mark Range ∷ ps) = integer_in ps
upper_in ps = None

abbrev pub bounds_by : Option Text → Option Text → List Part → Front Bounds
bounds_by None m ps = None
bounds_by (Some n) None ps = Some (one_bound n, drop 1 ps)
bounds_by (Some n) (Some m) ps = Some (two_bounds n m, drop 3 ps)

abbrev pub bounds_in : List Part → Front Bounds
bounds_in ps = bounds_by (integer_in ps) (upper_in (drop 1 ps)) ps

-- ===== sets

-- further bounds with a comma before each, up to `]`
abbrev pub more_bounds_in : List Part → Front (List Bounds)
more_bounds_in (mark CloseSquare ∷ ps) = Some ([], ps)
more_bounds_in (mark Comma ∷ term_part (integer_phrase n) ∷ mark Range ∷ term_part (integer_phrase m) ∷ ps) = front_as (λ bs. two_bounds n m ∷ bs) (more_bounds_in ps)
more_bounds_in (mark Comma ∷ term_part (integer_phrase n) ∷ ps) = front_as (λ bs. one_bound n ∷ bs) (more_bounds_in ps)
more_bounds_in ps = None

abbrev pub bounds_list_by : Front Bounds → Front (List Bounds)
bounds_list_by None = None
bounds_list_by (Some r) = front_as (λ bs. r.0 ∷ bs) (more_bounds_in r.1)

-- bounds with commas between them, up to `]`
abbrev pub bounds_list_in : List Part → Front (List Bounds)
bounds_list_in ps = bounds_list_by (bounds_in ps)

abbrev pub bracketed_by : Front Bounds → Front SetPhrase
bracketed_by None = None
bracketed_by (Some r) = front_as (bracketed r.0) (more_bounds_in r.1)

abbrev pub set_in : List Part → Front SetPhrase
set_in (mark OpenSquare ∷ ps) = bracketed_by (bounds_in ps)
set_in ps = front_as bare (bounds_in ps)

-- ===== items

abbrev pub term_in : List Part → Front Phrase
term_in (term_part p ∷ ps) = Some (p, ps)
term_in ps = None

abbrev pub callable_in : List Part → Front Phrase
callable_in (term_part (said w us) ∷ ps) = Some (said w us, ps)
callable_in ps = None

abbrev pub mode_named : Text → Option Mode
mode_named bs =
    cond (same_text bs (codes "most")) (Some most)
    (cond (same_text bs (codes "unique")) (Some unique)
    (cond (same_text bs (codes "consistent")) (Some consistent) None))

-- the text of an atom that is not in quotes
abbrev pub plain_text : Kind → Text → Option Text
plain_text Atom bs = Some bs
plain_text k bs = None

-- the text of an atom without arguments and not in quotes
abbrev pub atom_in : List Part → Option Text
atom_in (term_part (said w no_phrases) ∷ ps) = plain_text w.kind w.text
atom_in ps = None

abbrev pub mode_by : Option Text → Option Mode
mode_by None = None
mode_by (Some bs) = mode_named bs

abbrev pub mode_in : List Part → Option Mode
mode_in ps = mode_by (atom_in ps)

abbrev pub infer_by : Front Phrase → Option Mode → List Part → Front Item
infer_by None m ps = None
infer_by (Some r) None ps = None
infer_by (Some r) (Some m) ps = Some (asks r.0 m, ps)

-- an atom with or without arguments, and the mode two parts behind it
abbrev pub infer_in : List Part → Front Item
infer_in ps = infer_by (callable_in ps) (mode_in (drop 2 ps)) (drop 3 ps)

abbrev pub call_in : List Part → Front Item
call_in ps = front_as calls (callable_in ps)

abbrev pub comparison_in : Phrase → Kind → List Part → Front Item
comparison_in p k ps = cond (is_comparison k) (front_as (compares k p) (term_in ps)) (call_in (term_part p ∷ mark k ∷ ps))

-- by what stands behind the first term
abbrev pub item_in : List Part → Front Item
item_in (term_part p ∷ mark Equals ∷ ps) = front_as (equates p) (term_in ps)
item_in (term_part p ∷ mark InDomain ∷ ps) = front_as (belongs p) (set_in ps)
item_in (term_part p ∷ mark Infers ∷ ps) = infer_in (term_part p ∷ mark Infers ∷ ps)
item_in (term_part p ∷ mark k ∷ ps) = comparison_in p k ps
item_in ps = call_in ps
