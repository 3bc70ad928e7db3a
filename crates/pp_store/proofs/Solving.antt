-- A query's equations and domain items, solved one after another on free variables.
use Rattle.std.proofs.Common.{◌≡◌, ℕ, zero, suc, ◌+◌, ◌<◌, ◌≤◌, inl, inr, List, [], ◌∷◌, ◌++◌, length, get_or, drop, map, All, Option, None, refl, ap, sym, ◌∙◌, arith, subst}
use Rattle.std.specs.Prelude.{nat_eq}
use Rattle.std.proofs.lemmas.List.{drop_all, drop_more, length_push}
use Rattle.std.proofs.lemmas.List.Elements.{All-nil, All-cons, All-head, All-tail, All-push}
use Rattle.pp_algebra.specs.Terms.{Tree, variable, Trees, none, more, put, put_all, variables, variables_all, count, join}
use Rattle.pp_algebra.specs.Rows.{Domain, Domains, Row, domain_at, pattern_of, IsWide, IsRow, IsCanonical}
use Rattle.pp_algebra.specs.Covers.{IsIn, MayGo}
use Rattle.pp_algebra.specs.Canon.{canon}
use Rattle.pp_algebra.specs.Solve.{Item, equation, membership, Meets, IsSolved, HasNone}
use Rattle.pp_algebra.specs.Numbered.{variables_from, column}
use Rattle.pp_algebra.proofs.Put.{put-variable, count-put_all}
use Rattle.pp_algebra.proofs.Antisym.{put-agree, covers_antisymmetric}
use Rattle.pp_algebra.proofs.CanonLemmas.{nat_eq-IsSame, canon-IsCanonical, canon-covers, covers-canon}
use Rattle.pp_algebra.proofs.Order.{IsIn-left, IsIn-right}
use Rattle.pp_row.specs.Columns.{trees_of}
use Rattle.pp_propagation.specs.Stores.{items_of, Begins, BeginsNowhere}
use Rattle.pp_unify.specs.States.{no_columns, present, value_in, IsOver, with_new, with_many, row_in}
use Rattle.pp_unify.specs.Laws.{item_in, IsItemOver, AreSolved, OneHasNone}
use Rattle.pp_unify.proofs.Turns.{solved_in_turn}
use Rattle.pp_term.specs.declared.query.Item.{Item as QueryEntry}
use Rattle.pp_term.specs.declared.query.Item.TheVariants as entries
use Rattle.pp_term.specs.declared.query.Query.{Query}
use Rattle.pp_term.specs.WellFormed.{AreBelow, IsItem, IsQuery}
use Rattle.pp_query.specs.Meanings.{item_of}
use Rattle.pp_store.specs.Queries.{query_by}
use Rattle.pp_algebra.proofs.Numbered.{count-from, from_numbered, column-from}

-- ===== one after another

-- the items of these entries of a query
abbrev pub items_in : List QueryEntry → List (Item ℕ)
items_in es = items_of (map item_of es)

-- the entries that are left, on the row so far, decide all of them
pub record IsLeft (r : Row) (all : List QueryEntry) (p : Row) (rest : List QueryEntry) : Type 0 where
  pub count : count p.columns ≡ count r.columns
  pub solved : (q : Row) → AreSolved p (items_in rest) q → AreSolved r (items_in all) q
  pub none : OneHasNone p (items_in rest) → OneHasNone r (items_in all)

pub left_all : (r : Row) (all : List QueryEntry) → IsLeft r all r all
left_all r all = record { count = refl; solved = λ q a. a; none = λ n. n }

-- one entry has no item or one
append_items : (e : QueryEntry) (rest : List QueryEntry) → items_in (e ∷ rest) ≡ items_in (e ∷ []) ++ items_in rest
append_items (entries.Equate a b) rest = refl
append_items (entries.Member t d) rest = refl
append_items (entries.Infer s ts m) rest = refl

solved-append : (p q s : Row) (is js : List (Item ℕ)) → AreSolved p is q → AreSolved q js s → AreSolved p (is ++ js) s
solved-append p q s [] js a b = subst (λ x. AreSolved x js s) (sym a) b
solved-append p q s (i ∷ is) js a b = (a.0, a.1, solved-append a.0 q s is js a.2 b)

none-later : (p q : Row) (is js : List (Item ℕ)) → AreSolved p is q → OneHasNone q js → OneHasNone p (is ++ js)
none-later p q [] js a n = subst (λ x. OneHasNone x js) (sym a) n
none-later p q (i ∷ is) js a n = inr (a.0, a.1, none-later a.0 q is js a.2 n)

none-first : (p : Row) (is js : List (Item ℕ)) → OneHasNone p is → OneHasNone p (is ++ js)
none-first p [] js n = absurd n
none-first p (i ∷ is) js (inl n) = inl n
none-first p (i ∷ is) js (inr n) = inr (n.0, n.1, none-first n.0 is js n.2)

solved-count : (p q : Row) (is : List (Item ℕ)) → AreSolved p is q → count q.columns ≡ count p.columns
solved-count p q [] a = ap (λ (r : Row). count r.columns) (sym a)
solved-count p q (i ∷ is) a = solved-count a.0 q is a.2 ∙ ap count (sym a.1.meets.columns) ∙ count-put_all a.1.meets.by p.columns

module _ (r : Row) (all : List QueryEntry) (k : ℕ) (e d : QueryEntry) (l : k < length all) (is : e ≡ get_or all k d) (p q : Row) (left : IsLeft r all p (drop k all)) where
  opened : items_in (drop k all) ≡ items_in (e ∷ []) ++ items_in (drop (k + 1) all)
  opened = ap (λ es. items_in es) (drop_more all k d l ∙ ap (λ x. x ∷ drop (k + 1) all) (sym is)) ∙ append_items e (drop (k + 1) all)

  pub left_next : AreSolved p (items_in (e ∷ [])) q → IsLeft r all q (drop (k + 1) all)
  left_next a = record {
    count = solved-count p q (items_in (e ∷ [])) a ∙ left.count;
    solved = λ x b. left.solved x (subst (λ is. AreSolved p is x) (sym opened) (solved-append p q x (items_in (e ∷ [])) (items_in (drop (k + 1) all)) a b));
    none = λ n. left.none (subst (OneHasNone p) (sym opened) (none-later p q (items_in (e ∷ [])) (items_in (drop (k + 1) all)) a n));
  }

  pub left_none : OneHasNone p (items_in (e ∷ [])) → OneHasNone r (items_in all)
  left_none n = left.none (subst (OneHasNone p) (sym opened) (none-first p (items_in (e ∷ [])) (items_in (drop (k + 1) all)) n))

pub none_left : (r : Row) (all : List QueryEntry) (k : ℕ) (p : Row) → length all ≤ k → IsLeft r all p (drop k all) → AreSolved r (items_in all) p
none_left r all k p l left = left.solved p (subst (λ es. AreSolved p (items_in es) p) (sym (drop_all k all l)) refl)

-- ===== free variables

from-push : (first n : ℕ) → join (variables_from first n) (more (variable (first + n)) none) ≡ variables_from first (suc n)
from-push first zero = ap (λ v. more (variable v) none) (omega arith)
from-push first (suc n) = ap (more (variable first)) (ap (λ v. join (variables_from (suc first) n) (more (variable v) none)) (omega arith) ∙ from-push (suc first) n)

-- so many variables, each of domain `any`
abbrev pub any_domains : ℕ → List (Option Domain)
any_domains zero = []
any_domains (suc n) = any_domains n ++ None ∷ []

abbrev pub free_row : ℕ → Row
free_row n = record { columns = variables_from 0 n; domains = any_domains n }

any-length : (n : ℕ) → length (any_domains n) ≡ n
any-length zero = refl
any-length (suc n) = length_push (any_domains n) None ∙ omega (arith, any-length n)

pub many_is_free : (n : ℕ) → with_many no_columns n ≡ free_row n
many_is_free zero = refl
many_is_free (suc n) =
    ap (λ r. with_new r None) (many_is_free n)
    ∙ ap (λ v. record { columns = join (variables_from 0 n) (more (variable v) none); domains = any_domains n ++ None ∷ [] }) (any-length n)
    ∙ ap (λ ts. record { columns = ts; domains = any_domains n ++ None ∷ [] }) (ap (λ v. join (variables_from 0 n) (more (variable v) none)) (let e : n ≡ 0 + n = omega arith in e) ∙ from-push 0 n)

any-at : (n v : ℕ) → domain_at (any_domains n) v ≡ None
any-at zero v = refl
any-at (suc n) v = pushed (any_domains n) v (any-at n v)
  where
    pushed : (ds : List (Option Domain)) (v : ℕ) → domain_at ds v ≡ None → domain_at (ds ++ None ∷ []) v ≡ None
    pushed [] zero e = refl
    pushed [] (suc v) e = refl
    pushed (d ∷ ds) zero e = e
    pushed (d ∷ ds) (suc v) e = pushed ds v e

any-wide : (n : ℕ) → All IsWide (any_domains n)
any-wide zero = All-nil IsWide
any-wide (suc n) = All-push IsWide (any_domains n) None (any-wide n) tt

free_is_row : (n : ℕ) → IsRow (free_row n)
free_is_row n = record {
  canonical = from_numbered 0 n (length (any_domains n)) (omega (arith, any-length n));
  wide = any-wide n;
}

stays : (n : ℕ) (t : Tree ℕ) → IsOver (free_row n) t → put (value_in (free_row n)) t ≡ t
stays n t o = put-agree (value_in (free_row n)) variable t (λ v i. column-from 0 n v (subst (λ m. v < m) (count-from 0 n) (o v i)) ∙ ap variable (omega arith)) ∙ put-variable t

item_stays : (n : ℕ) (i : Item ℕ) → IsItemOver (free_row n) i → item_in (free_row n) i ≡ i
item_stays n (equation a b) o = ap (λ x. equation x (put (value_in (free_row n)) b)) (stays n a o.0) ∙ ap (equation a) (stays n b o.1)
item_stays n (membership t d) o = ap (λ x. membership x d) (stays n t o)

items_stay : (n : ℕ) (is : List (Item ℕ)) → All (IsItemOver (free_row n)) is → map (item_in (free_row n)) is ≡ is
items_stay n [] o = refl
items_stay n (i ∷ is) o = ap (λ x. x ∷ map (item_in (free_row n)) is) (item_stays n i (All-head (IsItemOver (free_row n)) i is o)) ∙ ap (λ js. i ∷ js) (items_stay n is (All-tail (IsItemOver (free_row n)) i is o))

-- the items of well-formed entries are over the variables
over_left : (a b : Tree ℕ) (n v : ℕ) → AreBelow n (a ∷ b ∷ []) → IsIn v (variables a) → v < n
over_left a b n v h i = h v (IsIn-left v (variables a) (variables_all (trees_of (b ∷ []))) i)

over_right : (a b : Tree ℕ) (n v : ℕ) → AreBelow n (a ∷ b ∷ []) → IsIn v (variables b) → v < n
over_right a b n v h i = h v (IsIn-right v (variables a) (variables_all (trees_of (b ∷ []))) (IsIn-left v (variables b) [] i))

over_one : (a : Tree ℕ) (n v : ℕ) → AreBelow n (a ∷ []) → IsIn v (variables a) → v < n
over_one a n v h i = h v (IsIn-left v (variables a) [] i)

pub equation_over : (r : Row) (a b : Tree ℕ) → AreBelow (count r.columns) (a ∷ b ∷ []) → IsOver r a × IsOver r b
equation_over r a b h = ((λ v i. over_left a b (count r.columns) v h i), λ v i. over_right a b (count r.columns) v h i)

pub membership_over : (r : Row) (a : Tree ℕ) → AreBelow (count r.columns) (a ∷ []) → IsOver r a
membership_over r a h = λ v i. over_one a (count r.columns) v h i

items_over : (r : Row) (es : List QueryEntry) → All (IsItem (count r.columns)) es → All (IsItemOver r) (items_in es)
items_over r [] h = All-nil (IsItemOver r)
items_over r (entries.Equate a b ∷ es) h = All-cons (IsItemOver r) (equation a b) (items_in es) (equation_over r a b (All-head (IsItem (count r.columns)) (entries.Equate a b) es h)) (items_over r es (All-tail (IsItem (count r.columns)) (entries.Equate a b) es h))
items_over r (entries.Member t d ∷ es) h = All-cons (IsItemOver r) _ (items_in es) (membership_over r t (All-head (IsItem (count r.columns)) (entries.Member t d) es h)) (items_over r es (All-tail (IsItem (count r.columns)) (entries.Member t d) es h))
items_over r (entries.Infer s ts m ∷ es) h = items_over r es (All-tail (IsItem (count r.columns)) (entries.Infer s ts m) es h)

-- ===== the opening store

-- the same columns with domains that are the same everywhere
other_domains : (ts : Trees ℕ) (ds es : Domains ℕ) (is : List (Item ℕ)) (q : Row) → ((v : ℕ) → ds v ≡ es v) → Meets (record { columns = ts; domains = ds }) is q → Meets (record { columns = ts; domains = es }) is q
other_domains ts ds es is q h m = record { by = m.by; columns = m.columns; domains = λ v. subst (λ d. MayGo (domain_at q.domains) d (m.by v)) (h v) (m.domains v); holds = m.holds }

module _ (q : Query) (whole : IsQuery q) where
  abbrev n : ℕ
  n = q.vars

  over : All (IsItemOver (free_row q.vars)) (items_in q.items)
  over = items_over (free_row q.vars) q.items (subst (λ m. All (IsItem m) q.items) (sym (count-from 0 q.vars)) whole.items)

  turned_is : (p : Row) → AreSolved (free_row q.vars) (items_in q.items) p → IsSolved (pattern_of (free_row q.vars)) (items_in q.items) p
  turned_is p a = subst (λ is. IsSolved (pattern_of (free_row q.vars)) is p) (items_stay q.vars (items_in q.items) over) (((solved_in_turn (free_row q.vars) (items_in q.items) (free_is_row q.vars) over).0 p).0 a)

  none_is : OneHasNone (free_row q.vars) (items_in q.items) → HasNone (pattern_of (free_row q.vars)) (items_in q.items)
  none_is a = subst (λ is. HasNone (pattern_of (free_row q.vars)) is) (items_stay q.vars (items_in q.items) over) ((solved_in_turn (free_row q.vars) (items_in q.items) (free_is_row q.vars) over).1.0 a)

  pub begins_by : (p : Row) → AreSolved (free_row q.vars) (items_in q.items) p → Begins (query_by q) p
  begins_by p a =
      let s = turned_is p a in
      record {
        row = s.row;
        meets = other_domains (variables_from 0 q.vars) (domain_at (any_domains q.vars)) (λ _. None) (items_in q.items) p (any-at q.vars) s.meets;
        most = λ r i m. s.most r i (other_domains (variables_from 0 q.vars) (λ _. None) (domain_at (any_domains q.vars)) (items_in q.items) r (λ v. sym (any-at q.vars v)) m);
      }

  pub begins_nowhere_by : OneHasNone (free_row q.vars) (items_in q.items) → BeginsNowhere (query_by q)
  begins_nowhere_by a = λ r i m. none_is a r i (other_domains (variables_from 0 q.vars) (λ _. None) (domain_at (any_domains q.vars)) (items_in q.items) r (λ v. sym (any-at q.vars v)) m)

-- ===== the row of all variables is the row itself

column-all : (ts : Trees ℕ) (n first : ℕ) (f : ℕ → Tree ℕ) → count ts ≡ n → ((v : ℕ) → v < n → f (first + v) ≡ column ts v) → put_all f (variables_from first n) ≡ ts
column-all none zero first f e h = refl
column-all none (suc n) first f e h = absurd (omega (arith, e))
column-all (more t ts) zero first f e h = absurd (omega (arith, e))
column-all (more t ts) (suc n) first f e h =
    let here : f first ≡ t = ap f (omega arith) ∙ h 0 (omega arith) in
    ap (λ u. more u (put_all f (variables_from (suc first) n))) here
    ∙ ap (more t) (column-all ts n (suc first) f (omega (arith, e)) (λ v l. ap f (omega arith) ∙ h (suc v) (omega (arith, l))))

pub all_columns : (p : Row) (m : ℕ) → count p.columns ≡ m → put_all (value_in p) (variables_from 0 m) ≡ p.columns
all_columns p m e = column-all p.columns m 0 (value_in p) e (λ v l. ap (value_in p) (omega arith))

-- a canonical row is numbered already
pub numbered_again : (r : Row) → IsCanonical r → canon nat_eq (pattern_of r) ≡ r
numbered_again r c = covers_antisymmetric (canon nat_eq (pattern_of r)) r (canon-IsCanonical nat_eq nat_eq-IsSame (pattern_of r)) c (canon-covers nat_eq nat_eq-IsSame (pattern_of r)) (covers-canon nat_eq nat_eq-IsSame (pattern_of r))

pub whole_row : (p : Row) (m : ℕ) (ts : List (Tree ℕ)) → IsRow p → count p.columns ≡ m → trees_of ts ≡ variables_from 0 m → row_in p ts ≡ p
whole_row p m ts h e f =
    ap (λ us. canon nat_eq (record { columns = us; domains = domain_at p.domains })) (ap (put_all (value_in p)) f ∙ all_columns p m e)
    ∙ numbered_again p h.canonical

pub variables_over : (p : Row) (first m : ℕ) (ts : List (Tree ℕ)) → trees_of ts ≡ variables_from first m → first + m ≤ count p.columns → All (IsOver p) ts
variables_over p first m [] e l = All-nil (IsOver p)
variables_over p first zero (t ∷ ts) e l = let f : more t (trees_of ts) ≡ none = e in absurd (cc (f))
variables_over p first (suc m) (t ∷ ts) e l =
    let f : more t (trees_of ts) ≡ more (variable first) (variables_from (suc first) m) = e in
    let here : t ≡ variable first = cc (f) in
    let rest : trees_of ts ≡ variables_from (suc first) m = cc (f) in
    All-cons (IsOver p) t ts (subst (IsOver p) (sym here) (one_over first (omega (arith, l)))) (variables_over p (suc first) m ts rest (omega (arith, l)))
  where
    one_over : (v : ℕ) → v < count p.columns → IsOver p (variable v)
    one_over v l w (inl g) = omega (arith, g, l)
    one_over v l w (inr g) = absurd g

-- ===== the opening store, from the calls that make it

pub free_at_first : (p : Row) (old : List Row) (m : ℕ) → old ≡ no_columns ∷ [] → p ≡ with_many (present old) m → p ≡ free_row m
free_at_first p old m e f = f ∙ ap (λ rs. with_many (present rs) m) e ∙ many_is_free m

pub items_whole : (q : Query) → IsQuery q → (p : Row) → p ≡ free_row q.vars → All (IsItem (count p.columns)) q.items
items_whole q h p e = subst (λ m. All (IsItem m) q.items) (sym (ap (λ (r : Row). count r.columns) e ∙ count-from 0 q.vars)) h.items

pub decided_begins : (q : Query) → IsQuery q → (p r : Row) → p ≡ free_row q.vars → AreSolved p (items_in q.items) r → Begins (query_by q) r
decided_begins q h p r e a = begins_by q h r (subst (λ x. AreSolved x (items_in q.items) r) e a)

pub decided_nowhere : (q : Query) → IsQuery q → (p : Row) → p ≡ free_row q.vars → OneHasNone p (items_in q.items) → BeginsNowhere (query_by q)
decided_nowhere q h p e a = begins_nowhere_by q h (subst (λ x. OneHasNone x (items_in q.items)) e a)

pub begun-count : (q : Query) (r : Row) → Begins (query_by q) r → count r.columns ≡ q.vars
begun-count q r b = ap count (sym b.meets.columns) ∙ count-put_all b.meets.by (variables_from 0 q.vars) ∙ count-from 0 q.vars
