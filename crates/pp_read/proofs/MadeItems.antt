-- Items that stand one behind another with commas between them, each made of its own parts.
use Rattle.std.proofs.Common.{◌≡◌, ℕ, suc, ◌+◌, Bool, true, List, [], ◌∷◌, ◌++◌, length, map, drop, drop-drop, refl, ap, sym, ◌∙◌, subst, arith}
use Rattle.std.specs.Prelude.{All}
use Rattle.std.specs.List.{list_all}
use Rattle.std.proofs.lemmas.Bool.{and_parts}
use Rattle.std.proofs.lemmas.List.Elements.{All-nil, All-cons}
use Rattle.pp_algebra.specs.Terms.{Trees}
use Rattle.pp_language.specs.declared.token.Kind.TheVariants.{Comma}
use Rattle.pp_language.specs.Texts.{Text}
use Rattle.pp_language.specs.Phrases as phrases
use Rattle.pp_language.specs.Phrases.{mark, parts_words}
use Rattle.pp_language.specs.Statements.{Item, item_parts, items_parts, is_item}
use Rattle.pp_language.specs.Meanings.{blanks_all, item_phrases}
use Rattle.pp_parse.specs.declared.parts.Part.{Part}
use Rattle.pp_parse.specs.declared.items.Entry.{Entry}
use Rattle.pp_parse.specs.Terms.{terms_of}
use Rattle.pp_parse.specs.Parts.{AreParts}
use Rattle.pp_parse.specs.Layouts.{IsEntry, AreEntries}
use Rattle.pp_read.proofs.ListKeys.{list_terms}
use Rattle.pp_read.proofs.PartTexts.{item_texted}
use Rattle.pp_read.proofs.PartsAt.{behind, AreGood, good_first, good_second}

abbrev pub values : {A : Type 0} → (Item → Trees ℕ → A) → List Item → List (Trees ℕ) → List A
values value [] tss = []
values value (x ∷ xs) [] = []
values value (x ∷ xs) (ts ∷ tss) = value x ts ∷ values value xs tss

abbrev Entries : Type 0
Entries = List Entry

module _ {A : Type 0} (names named : List Text) (ps : List Part) (kind : Item → Bool) (Fits : Entry → Type 0) (from : Entry → A) (value : Item → Trees ℕ → A) where
  -- each item alone
  abbrev pub OneMade : Type 0
  OneMade = (x : Item) (e : Entry) (i n w : ℕ) (rest : List phrases.Part) → is_item x ≡ true → kind x ≡ true → IsEntry i x e → AreParts names named n w (item_parts x ++ rest) (drop i ps) → AreGood names (item_parts x) → Fits e × (from e ≡ value x (terms_of names named n (item_phrases x)))

  pub record AllMade (n : ℕ) (xs : List Item) (es : Entries) : Type 0 where
    pub fits : All Fits es
    pub are : map from es ≡ values value xs (list_terms names named n (map item_phrases xs))

  module _ (one : OneMade) where
    next_parts : (x : Item) (i n w : ℕ) (rest : List phrases.Part) → is_item x ≡ true → AreParts names named n w (item_parts x ++ mark Comma ∷ rest) (drop i ps) → AreParts names named (n + blanks_all (item_phrases x)) (w + length (parts_words (item_parts x)) + 1) rest (drop (i + suc (length (item_parts x))) ps)
    next_parts x i n w rest h q =
        let m = n + blanks_all (item_phrases x) in
        let b = behind names named n m w (item_parts x) (mark Comma ∷ rest) (drop i ps) (ap (λ k. n + k) (sym (item_texted names x h).blank)) q in
        let c = behind names named m m (w + length (parts_words (item_parts x))) (mark Comma ∷ []) rest (drop (length (item_parts x)) (drop i ps)) (omega arith) b in
        let e : i + length (item_parts x) + 1 ≡ i + suc (length (item_parts x)) = omega arith in
        subst (AreParts names named m (w + length (parts_words (item_parts x)) + 1) rest) (ap (drop 1) (drop-drop (length (item_parts x)) i ps) ∙ drop-drop 1 (i + length (item_parts x)) ps ∙ ap (λ k. drop k ps) e) c

    made_cons : (x : Item) (xs : List Item) (e : Entry) (es : Entries) (n : ℕ) → Fits e × (from e ≡ value x (terms_of names named n (item_phrases x))) → AllMade (n + blanks_all (item_phrases x)) xs es → AllMade n (x ∷ xs) (e ∷ es)
    made_cons x xs e es n m r = record {
      fits = All-cons Fits e es m.0 r.fits;
      are = ap (λ v. v ∷ map from es) m.1 ∙ ap (λ vs. value x (terms_of names named n (item_phrases x)) ∷ vs) r.are;
    }

    pub all_made : (xs : List Item) (es : Entries) (i n w : ℕ) → list_all is_item xs ≡ true → list_all kind xs ≡ true → AreEntries i xs es → AreParts names named n w (items_parts xs) (drop i ps) → AreGood names (items_parts xs) → AllMade n xs es
    all_made [] [] i n w h b s q g = record { fits = All-nil Fits; are = refl }
    all_made [] (e ∷ es) i n w h b s q g = absurd s
    all_made (x ∷ xs) [] i n w h b s q g = absurd s
    all_made (x ∷ []) (e ∷ []) i n w h b s q g =
        made_cons x [] e [] n (one x e i n w [] (and_parts (is_item x) true h).0 (and_parts (kind x) true b).0 s.0 q (good_first names (item_parts x) [] g)) (record { fits = All-nil Fits; are = refl })
    all_made (x ∷ []) (e ∷ f ∷ es) i n w h b s q g = absurd s.1
    all_made (x ∷ y ∷ ys) (e ∷ es) i n w h b s q g =
        let k = and_parts (is_item x) (list_all is_item (y ∷ ys)) h in
        let l = and_parts (kind x) (list_all kind (y ∷ ys)) b in
        let rest = items_parts (y ∷ ys) in
        made_cons x (y ∷ ys) e es n (one x e i n w (mark Comma ∷ rest) k.0 l.0 s.0 q (good_first names (item_parts x) (mark Comma ∷ rest) g))
        (all_made (y ∷ ys) es (i + suc (length (item_parts x))) (n + blanks_all (item_phrases x)) _ k.1 l.1 s.1 (next_parts x i n w rest k.0 q) (good_second names (item_parts x) (mark Comma ∷ rest) g).1)
