-- Items between commas, read one after another.
use Rattle.std.proofs.Common.{◌≡◌, ℕ, zero, suc, ◌+◌, ◌≤◌, Bool, true, List, [], ◌∷◌, ◌++◌, length, length-append, drop, Some, None, refl, ap, sym, subst, ◌∙◌, append_assoc, append-nil, arith}
use Rattle.std.specs.Prelude.{◌&&◌}
use Rattle.std.specs.List.{list_all}
use Rattle.std.proofs.lemmas.Bool.{and_parts, and_from}
use Rattle.std.proofs.lemmas.Option.{some_pair_parts}
use Rattle.std.proofs.lemmas.List.{length-drop, drop_all}
use Rattle.pp_language.specs.declared.token.Kind.TheVariants.{Comma}
use Rattle.pp_language.specs.Phrases.{Part, mark}
use Rattle.pp_language.specs.PartsOf.{is_part, are_parts}
use Rattle.pp_language.specs.Statements.{Item, calls, equates, belongs, compares, asks, item_parts, more_items, items_parts, some_item, is_item, is_body_item, is_query_item}
use Rattle.pp_language.specs.Fronts.{mark_in, item_in}
use Rattle.pp_language.proofs.ItemRead.{mark_front, item_read}
use Rattle.pp_language.proofs.OneItems.{more_end}
use Rattle.pp_language.proofs.StatementParts.{all-append}
use Rattle.pp_parse.specs.declared.items.Entry.{Entry}
use Rattle.pp_parse.specs.Layouts.{IsEntry, AreEntries, HasNoItems, HasItems, is_body_entry, is_query_entry}
use Rattle.pp_parse.proofs.Fronts.{next_place}
use Rattle.pp_parse.proofs.ItemStands.{IsItemOf, ItemStands, item_stands}

dropped_parts : (n : ℕ) (ps : List Part) → are_parts ps ≡ true → are_parts (drop n ps) ≡ true
dropped_parts zero ps h = h
dropped_parts (suc n) [] h = h
dropped_parts (suc n) (p ∷ ps) h = dropped_parts n ps (and_parts (is_part p) (are_parts ps) h).1

-- each item, and a comma behind it
abbrev pub fronts : List Item → List Part
fronts [] = []
fronts (x ∷ xs) = item_parts x ++ mark Comma ∷ fronts xs

fronts-push : (xs : List Item) (x : Item) (ps : List Part) → fronts (xs ++ x ∷ []) ++ ps ≡ fronts xs ++ (item_parts x ++ mark Comma ∷ ps)
fronts-push [] x ps = append_assoc (item_parts x) (mark Comma ∷ []) ps
fronts-push (y ∷ xs) x ps =
    append_assoc (item_parts y) (mark Comma ∷ fronts (xs ++ x ∷ [])) ps
    ∙ ap (λ qs. item_parts y ++ mark Comma ∷ qs) (fronts-push xs x ps)
    ∙ sym (append_assoc (item_parts y) (mark Comma ∷ fronts xs) (item_parts x ++ mark Comma ∷ ps))

-- the last item has no comma behind it
items-push : (xs : List Item) (x : Item) → items_parts (xs ++ x ∷ []) ≡ fronts xs ++ item_parts x
items-push [] x = append-nil (item_parts x)
items-push (y ∷ []) x = ap (λ qs. item_parts y ++ mark Comma ∷ qs) (append-nil (item_parts x)) ∙ sym (append_assoc (item_parts y) (mark Comma ∷ []) (item_parts x))
items-push (y ∷ z ∷ xs) x =
    ap (λ qs. item_parts y ++ mark Comma ∷ qs) (items-push (z ∷ xs) x)
    ∙ sym (append_assoc (item_parts y) (mark Comma ∷ fronts (z ∷ xs)) (item_parts x))

length-fronts : (y : Item) (xs : List Item) → length (fronts (y ∷ xs)) ≡ length (item_parts y) + suc (length (fronts xs))
length-fronts y xs = length-append (item_parts y) (mark Comma ∷ fronts xs)

entries_push : (i j : ℕ) (xs : List Item) (x : Item) (es : List Entry) (e : Entry) → j ≡ i + length (fronts xs) → AreEntries i xs es → IsEntry j x e → AreEntries i (xs ++ x ∷ []) (es ++ e ∷ [])
entries_push i j [] x [] e n a h = (subst (λ k. IsEntry k x e) (let m : j ≡ i = omega arith in m) h, tt)
entries_push i j [] x (d ∷ es) e n a h = absurd a
entries_push i j (y ∷ xs) x [] e n a h = absurd a
entries_push i j (y ∷ xs) x (d ∷ es) e n a h =
    let l = length-fronts y xs in
    (a.0, entries_push (i + suc (length (item_parts y))) j xs x es e (omega arith) a.1 h)

-- items are read from place i up to place j, a comma behind each, and these entries are theirs
pub record ItemsTo (qs : List Part) (i j : ℕ) (es : List Entry) : Type 0 where
  pub items : List Item
  pub fit : list_all is_item items ≡ true
  pub before : drop i qs ≡ fronts items ++ drop j qs
  pub place : j ≡ i + length (fronts items)
  pub entries : AreEntries i items es
  pub within : j ≤ length qs

-- items are those in front of them, and others
later_items : (xs : List Item) (ps : List Part) (ys : List Item) → list_all is_item xs ≡ true → list_all is_item ys ≡ true → some_item ys ≡ true → fronts xs ++ ps ≡ items_parts ys
    → (zs : List Item) × (list_all is_item zs ≡ true) × (some_item zs ≡ true) × (ps ≡ items_parts zs)
later_items [] ps ys h g s e = (ys, g, s, e)
later_items (x ∷ xs) ps [] h g s e = absurd (cc (s))
later_items (x ∷ xs) ps (y ∷ ys) h g s e =
    let a = and_parts (is_item x) (list_all is_item xs) h in
    let b = and_parts (is_item y) (list_all is_item ys) g in
    let one = item_read x (mark Comma ∷ (fronts xs ++ ps)) a.0 refl in
    let two = item_read y (more_items ys) b.0 (more_end ys) in
    let f = some_pair_parts x y (mark Comma ∷ (fronts xs ++ ps)) (more_items ys) (sym one ∙ ap item_in (sym (append_assoc (item_parts x) (mark Comma ∷ fronts xs) ps) ∙ e) ∙ two) in
    go ys b.1 f.1 (later_items xs ps)
  where
    go : (zs : List Item) → list_all is_item zs ≡ true → mark Comma ∷ (fronts xs ++ ps) ≡ more_items zs
        → ((us : List Item) → list_all is_item xs ≡ true → list_all is_item us ≡ true → some_item us ≡ true → fronts xs ++ ps ≡ items_parts us → (vs : List Item) × (list_all is_item vs ≡ true) × (some_item vs ≡ true) × (ps ≡ items_parts vs))
        → (vs : List Item) × (list_all is_item vs ≡ true) × (some_item vs ≡ true) × (ps ≡ items_parts vs)
    go [] k f later = absurd (cc (f))
    go (z ∷ zs) k f later = later (z ∷ zs) (and_parts (is_item x) (list_all is_item xs) h).1 k refl (cc (f))

module _ (qs : List Part) (formed : are_parts qs ≡ true) (i : ℕ) where
  pub none_read : i ≤ length qs → ItemsTo qs i i []
  none_read l = record { items = []; fit = refl; before = refl; place = omega arith; entries = tt; within = l }

  module _ (j : ℕ) (es : List Entry) (to : ItemsTo qs i j es) where
    -- other items begin at place j
    others : (ys : List Item) → some_item ys ≡ true → list_all is_item ys ≡ true → drop i qs ≡ items_parts ys
        → (z : Item) × (zs : List Item) × (is_item z ≡ true) × (drop j qs ≡ item_parts z ++ more_items zs)
    others ys s g e =
        let l = later_items to.items (drop j qs) ys to.fit g s (sym to.before ∙ e) in
        go l.0 l.1 l.2 l.3
      where
        go : (zs : List Item) → list_all is_item zs ≡ true → some_item zs ≡ true → drop j qs ≡ items_parts zs → (z : Item) × (zs : List Item) × (is_item z ≡ true) × (drop j qs ≡ item_parts z ++ more_items zs)
        go [] h k f = absurd (cc (k))
        go (z ∷ zs) h k f = (z, zs, (and_parts (is_item z) (list_all is_item zs) h).0, f)

    pub not_read : item_in (drop j qs) ≡ None → HasNoItems (drop i qs)
    not_read e ys s g f =
        let o = others ys s g f in
        let r = item_read o.0 (more_items o.1) o.2 (more_end o.1) in
        absurd (cc (sym e ∙ ap item_in o.3 ∙ r))

    module _ (x : Item) (n : ℕ) (found : item_in (drop j qs) ≡ Some (x, drop n qs)) (room : n ≤ length qs) where
      pub not_ended : (n ≡ length qs → ⊥) → (mark_in (drop n qs) ≡ Some Comma → ⊥) → HasNoItems (drop i qs)
      not_ended h k ys s g f =
          let o = others ys s g f in
          let r = item_read o.0 (more_items o.1) o.2 (more_end o.1) in
          go o.1 (some_pair_parts x o.0 (drop n qs) (more_items o.1) (sym found ∙ ap item_in o.3 ∙ r)).1
        where
          go : (zs : List Item) → drop n qs ≡ more_items zs → ⊥
          go [] e = h (let l = length-drop n qs in let m : length (drop n qs) ≡ 0 = ap length e in omega arith)
          go (z ∷ zs) e = k (ap mark_in e)

      item : IsItemOf (drop j qs) x (drop n qs)
      item = subst (ItemStands (drop j qs)) found (item_stands (drop j qs))

      fits_item : is_item x ≡ true
      fits_item = item.fits (dropped_parts j qs formed)

      next_is : n ≡ j + length (item_parts x)
      next_is =
          let l = length-drop j qs in
          let m = length-drop n qs in
          let e : length (drop j qs) ≡ length (item_parts x) + length (drop n qs) = ap length item.stands ∙ length-append (item_parts x) (drop n qs) in
          let w = to.within in
          omega arith

      all_fit : list_all is_item (to.items ++ x ∷ []) ≡ true
      all_fit = all-append is_item to.items (x ∷ []) to.fit (and_from (is_item x) true fits_item refl)

      pub all_read : (e : Entry) → IsEntry j x e → n ≡ length qs → HasItems i (drop i qs) (es ++ e ∷ [])
      all_read e h l = record {
        items = to.items ++ x ∷ [];
        some = some_pushed to.items;
        fit = all_fit;
        are = to.before ∙ ap (λ ps. fronts to.items ++ ps) (item.stands ∙ ap (λ ps. item_parts x ++ ps) (drop_all n qs (omega arith)) ∙ append-nil (item_parts x)) ∙ sym (items-push to.items x);
        entries = entries_push i j to.items x es e to.place to.entries h;
      }
        where
          some_pushed : (ys : List Item) → some_item (ys ++ x ∷ []) ≡ true
          some_pushed [] = refl
          some_pushed (y ∷ ys) = refl

      pub one_read : (e : Entry) → IsEntry j x e → mark_in (drop n qs) ≡ Some Comma → n + 1 ≤ length qs → ItemsTo qs i (n + 1) (es ++ e ∷ [])
      one_read e h c l =
          let rest : drop n qs ≡ mark Comma ∷ drop (n + 1) qs = mark_front (drop n qs) Comma c ∙ ap (λ ps. mark Comma ∷ ps) (sym (next_place n qs)) in
          let before : drop i qs ≡ fronts (to.items ++ x ∷ []) ++ drop (n + 1) qs =
          to.before ∙ ap (λ ps. fronts to.items ++ ps) (item.stands ∙ ap (λ ps. item_parts x ++ ps) rest) ∙ sym (fronts-push to.items x (drop (n + 1) qs)) in
          record {
            items = to.items ++ x ∷ [];
            fit = all_fit;
            before = before;
            place = (
                let a = length-drop i qs in
                let b = length-drop (n + 1) qs in
                let d : length (drop i qs) ≡ length (fronts (to.items ++ x ∷ [])) + length (drop (n + 1) qs) = ap length before ∙ length-append (fronts (to.items ++ x ∷ [])) (drop (n + 1) qs) in
                let p = to.place in
                let m = next_is in
                let w = to.within in
                omega arith
                );
            entries = entries_push i j to.items x es e to.place to.entries h;
            within = l;
          }

-- ===== what a body or a query may hold

body_kind : (i : ℕ) (x : Item) (e : Entry) → IsEntry i x e → is_body_item x ≡ is_body_entry e
body_kind i (calls p) e h = rw h refl
body_kind i (equates p q) e h = rw h refl
body_kind i (belongs p s) e h = rw h.1 refl
body_kind i (compares k p q) e h = rw h.1 refl
body_kind i (asks p m) e h = rw h.1 refl

query_kind : (i : ℕ) (x : Item) (e : Entry) → IsEntry i x e → is_query_item x ≡ is_query_entry e
query_kind i (calls p) e h = rw h refl
query_kind i (equates p q) e h = rw h refl
query_kind i (belongs p s) e h = rw h.1 refl
query_kind i (compares k p q) e h = rw h.1 refl
query_kind i (asks p m) e h = rw h.1 refl

module _ (of_item : Item → Bool) (of_entry : Entry → Bool) (one : (i : ℕ) (x : Item) (e : Entry) → IsEntry i x e → of_item x ≡ of_entry e) where
  all_kinds : (i : ℕ) (xs : List Item) (es : List Entry) → AreEntries i xs es → list_all of_item xs ≡ list_all of_entry es
  all_kinds i [] [] h = refl
  all_kinds i [] (e ∷ es) h = absurd h
  all_kinds i (x ∷ xs) [] h = absurd h
  all_kinds i (x ∷ xs) (e ∷ es) h =
      ap (λ b. b && list_all of_item xs) (one i x e h.0) ∙ ap (λ b. of_entry e && b) (all_kinds (i + suc (length (item_parts x))) xs es h.1)

pub body_kinds : (i : ℕ) (xs : List Item) (es : List Entry) → AreEntries i xs es → list_all is_body_item xs ≡ list_all is_body_entry es
body_kinds = all_kinds is_body_item is_body_entry body_kind

pub query_kinds : (i : ℕ) (xs : List Item) (es : List Entry) → AreEntries i xs es → list_all is_query_item xs ≡ list_all is_query_entry es
query_kinds = all_kinds is_query_item is_query_entry query_kind
