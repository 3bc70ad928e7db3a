-- Open groups have no more arguments than words are read.
use Rattle.std.proofs.Common.{◌≡◌, ℕ, zero, suc, ◌+◌, ◌<◌, ◌≤◌, List, [], ◌∷◌, ◌++◌, length, map, drop, reverse, Some, ap, sym, ◌∙◌, subst, arith, length-append}
use Rattle.std.specs.Prelude.{All}
use Rattle.std.specs.List.{flat_map}
use Rattle.std.proofs.lemmas.List.{reverse-append, reverse-reverse}
use Rattle.std.proofs.lemmas.List.Elements.{All-nil, All-cons, All-head, All-tail, All-push, All-weaker}
use Rattle.pp_language.specs.declared.token.Token.{Token}
use Rattle.pp_language.specs.Texts.{Text}
use Rattle.pp_language.specs.Tokens.{IsTokenOf}
use Rattle.pp_language.specs.Words.{Word}
use Rattle.pp_language.specs.Phrases.{Phrase, integer_phrase, variable_phrase, said, Phrases, no_phrases, phrase_and, count, phrase_words, group_words, more_phrase_words, parts_words}
use Rattle.pp_language.specs.PartsOf as parts
use Rattle.pp_language.specs.PartsOf.{wanting, filled, State, state_of, open_words}
use Rattle.pp_language.proofs.PartsSpelled.{AreSpelled, Reads, state_reads}
use Rattle.pp_parse.specs.declared.reading.Group.{Group}
use Rattle.pp_parse.specs.Words.{words_of}
use Rattle.pp_parse.specs.Reading.{group_of, size_of}

pub all_reverse : {A : Type 0} (P : A → Type 0) (xs : List A) → All P xs → All P (reverse xs)
all_reverse P [] h = h
all_reverse P (x ∷ xs) h = subst (All P) (sym (reverse-append (x ∷ []) xs)) (All-push P (reverse xs) x (all_reverse P xs (All-tail P x xs h)) (All-head P x xs h))

phrase_some : (p : Phrase) → 1 ≤ length (phrase_words p)
phrase_some (integer_phrase bs) = omega arith
phrase_some (variable_phrase bs) = omega arith
phrase_some (said w ps) = omega arith

more_count : (ps : Phrases) → count ps + 1 ≤ length (more_phrase_words ps)
more_count no_phrases = omega arith
more_count (phrase_and p ps) = omega (arith, more_count ps, length-append (phrase_words p) (more_phrase_words ps))

group_count : (g : parts.Group) → size_of (group_of g) + 1 ≤ length (open_words g)
group_count (wanting ps) = more_count ps
group_count (filled p ps) = omega (arith, phrase_some p, more_count ps, length-append (phrase_words p) (more_phrase_words ps))

groups_count : (n : ℕ) (gs : List parts.Group) → length (flat_map open_words gs) ≤ n → All (λ g. size_of g + 1 ≤ n) (map group_of gs)
groups_count n [] l = All-nil (λ g. size_of g + 1 ≤ n)
groups_count n (g ∷ gs) l =
    let e = length-append (open_words g) (flat_map open_words gs) in
    All-cons (λ h. size_of h + 1 ≤ n) (group_of g) (map group_of gs) (omega (arith, group_count g)) (groups_count n gs (omega arith))

-- the tokens of a text are spelled
pub spelled_words : (text : Text) (ts : List Token) → All (IsTokenOf text) ts → AreSpelled (words_of text ts)
spelled_words text [] h = tt
spelled_words text (t ∷ ts) h = ((All-head (IsTokenOf text) t ts h).spelled, spelled_words text ts (All-tail (IsTokenOf text) t ts h))

pub spelled_drop : (i : ℕ) (ws : List Word) → AreSpelled ws → AreSpelled (drop i ws)
spelled_drop zero ws h = h
spelled_drop (suc i) [] h = h
spelled_drop (suc i) (w ∷ ws) h = spelled_drop i ws h.1

pub groups_small : (ws : List Word) (s : State) (groups : List Group) (n : ℕ) → AreSpelled ws → state_of ws ≡ Some s → reverse groups ≡ map group_of s.groups → length ws < n → All (λ g. size_of g + 1 < n) groups
groups_small ws s groups n h e r l =
    let w : group_words s.arguments ++ (flat_map open_words s.groups ++ parts_words s.parts) ≡ ws = subst (Reads ws) e (state_reads ws h) in
    let small : length (flat_map open_words s.groups) ≤ length ws = omega (arith, length-append (group_words s.arguments) (flat_map open_words s.groups ++ parts_words s.parts), length-append (flat_map open_words s.groups) (parts_words s.parts), ap length w) in
    let all = groups_count (length ws) s.groups small in
    let back : All (λ g. size_of g + 1 ≤ length ws) groups = subst (All (λ g. size_of g + 1 ≤ length ws)) (ap reverse (sym r) ∙ reverse-reverse groups) (all_reverse (λ g. size_of g + 1 ≤ length ws) (map group_of s.groups) all) in
    All-weaker (λ g. size_of g + 1 ≤ length ws) (λ g. size_of g + 1 < n) (λ g k. omega arith) groups back
