-- What applying a row changes, from the calls that find it out.
use Rattle.std.proofs.Common.{◌≡◌, ℕ, ◌<◌, ◌⊎◌, inl, inr, Bool, true, false, List, [], ◌∷◌, length, map, get_or, pos, All, refl, ap, sym, ◌∙◌, subst, arith}
use Rattle.std.specs.Prelude.{cond, nat_eq}
use Rattle.std.proofs.Math.ListN.{length-map}
use Rattle.pp_algebra.specs.Terms.{Tree, int, variable, put, put_all, variables, variables_all}
use Rattle.pp_algebra.specs.Rows.{Row, IsRow}
use Rattle.pp_algebra.specs.Covers.{IsIn}
use Rattle.pp_algebra.specs.Canon.{has, place, firsts, Distinct}
use Rattle.pp_algebra.specs.Numbered.{column}
use Rattle.pp_algebra.proofs.Order.{variables-put, variables_all-put_all}
use Rattle.pp_algebra.proofs.Antisym.{put_all-agree}
use Rattle.pp_algebra.proofs.Renamed.{comes_from}
use Rattle.std.proofs.lemmas.List.Elements.{All-nil, All-cons}
use Rattle.pp_sld.specs.Goals.{Goal}
use Rattle.pp_propagation.specs.Stores.{face}
use Rattle.pp_propagation.proofs.StoreRows.{face-variables}
use Rattle.pp_row.specs.Columns.{trees_of, set_by, pattern_by}
use Rattle.pp_row.specs.Substitution.{term_at}
use Rattle.pp_unify.proofs.Adding.{firsts-from}
use Rattle.pp_store.specs.declared.pattern.Change.{Change}
use Rattle.pp_store.specs.declared.pattern.Pattern.{Pattern}
use Rattle.pp_store.specs.Numbers.{AreNumbers}
use Rattle.pp_store.specs.Patterns.{column_at, row_in, names_at, under_numbers, IsSound, IsChange, IsMeant}
use Rattle.pp_store.specs.Replacing.{replacement}
use Rattle.pp_store.proofs.Lists.{in_has, in_get, get_map, found_at, at_found}
use Rattle.pp_store.proofs.Noting.{firsts_distinct}
use Rattle.pp_store.proofs.Renumbered.{column_in, under_in, names-canon, names_under}
use Rattle.pp_row.proofs.ColumnLists.{put-trees_of}
use Rattle.pp_algebra.proofs.Numbered.{numbered_below}

variable-at : (ns : List ℕ) (w : ℕ) → w < length ns → term_at (map variable ns) w ≡ variable (get_or ns w 0)
variable-at ns w l = get_map variable ns w 0 (variable w) l

-- the given row's columns, renamed
pub terms_under : (given : Row) (ns : List ℕ) (fresh columns terms : List (Tree ℕ)) → fresh ≡ map variable ns → trees_of columns ≡ given.columns → terms ≡ map (put (term_at fresh)) columns → ((w : ℕ) → IsIn w (variables_all given.columns) → w < length ns) → trees_of terms ≡ under_numbers ns given
terms_under given ns fresh columns terms f c t many =
    ap (λ ts. trees_of ts) t
    ∙ sym (put-trees_of (term_at fresh) columns)
    ∙ ap (put_all (term_at fresh)) c
    ∙ ap (λ ts. put_all (term_at ts) given.columns) f
    ∙ put_all-agree (term_at (map variable ns)) (λ w. variable (get_or ns w 0)) given.columns (λ w i. variable-at ns w (many w i))

pub names_distinct : (columns arguments : List (Tree ℕ)) (names : List ℕ) → names ≡ names_at columns arguments → Distinct nat_eq names
names_distinct columns arguments names e = subst (Distinct nat_eq) (sym e) (firsts_distinct [] (variables_all (put_all (column (trees_of columns)) (trees_of arguments))) tt)

pub name_below : (p : Pattern) → IsSound p → (arguments : List (Tree ℕ)) (names : List ℕ) → names ≡ names_at p.columns.items arguments → (v : ℕ) → IsIn v names → v < length p.domains.items
name_below p sound arguments names e v i = sound.below v (under_in (trees_of p.columns.items) (trees_of arguments) v (firsts-from (variables_all (put_all (column (trees_of p.columns.items)) (trees_of arguments))) v (subst (IsIn v) e i)))

pub row_below : (r : Row) → IsRow r → (w : ℕ) → IsIn w (variables_all r.columns) → w < length r.domains
row_below r h w i = numbered_below (variables_all r.columns) 0 (length r.domains) w h.canonical i

module _ (p : Pattern) (sound : IsSound p) (arguments : List (Tree ℕ)) (given : Row) (row : IsRow given) (c : Change) (change : IsChange p arguments given c) where
  abbrev names : List ℕ
  names = names_at p.columns.items arguments

  abbrev IsKnown : ℕ → Type 0
  IsKnown v = (v < length p.domains.items) ⊎ IsIn v c.numbers.items

  numbered_one : (w v : ℕ) → IsIn w (variables_all given.columns) → IsIn v (get_or c.numbers.items w 0 ∷ []) → IsIn v c.numbers.items
  numbered_one w v i (inl e) = subst (λ x. IsIn x c.numbers.items) e (in_get c.numbers.items w 0 (let l = row_below given row w i in omega (arith, l, change.numbers.many)))
  numbered_one w v i (inr h) = absurd h

  known_one : (v u : ℕ) → IsIn u (variables_all (trees_of p.columns.items)) → (b : Bool) → IsIn v (variables (cond b (column (under_numbers c.numbers.items given) (place nat_eq names u)) (variable u))) → IsKnown v
  known_one v u i true j =
      let k = column_in (under_numbers c.numbers.items given) (place nat_eq names u) v j in
      let w = comes_from (λ w. variables (variable (get_or c.numbers.items w 0))) (variables_all given.columns) v (subst (IsIn v) (variables_all-put_all (λ w. variable (get_or c.numbers.items w 0)) given.columns) k) in
      inr (numbered_one w.0 v w.1 w.2)
  known_one v u i false (inl e) = inl (subst (λ x. x < length p.domains.items) e (sound.below u i))
  known_one v u i false (inr h) = absurd h

  abbrev by : ℕ → Tree ℕ
  by = replacement names (under_numbers c.numbers.items given)

  touched_below : (k : ℕ) → IsIn k c.touched.keys → k < length p.columns.items
  touched_below k i = let s = change.touched.only k (in_has c.touched.keys k i) in sound.within s.0 k s.1

  many : length c.columns.items ≡ length c.touched.keys
  many = ap length change.columns ∙ length-map c.touched.keys (λ k. put by (column_at p.columns.items k))

  known : (v : ℕ) → IsIn v (variables_all (trees_of c.columns.items)) → IsKnown v
  known v i =
      let f = found_at c.columns.items v i in
      let l : f.0 < length c.touched.keys = omega (arith, f.1, many) in
      let k = get_or c.touched.keys f.0 0 in
      let is : column_at c.columns.items f.0 ≡ put by (column_at p.columns.items k) = ap (λ ts. column_at ts f.0) change.columns ∙ get_map (λ j. put by (column_at p.columns.items j)) c.touched.keys f.0 0 (int (pos 0)) l in
      let u = comes_from (λ u. variables (by u)) (variables (column_at p.columns.items k)) v (subst (IsIn v) (ap variables is ∙ variables-put by (column_at p.columns.items k)) f.2) in
      known_one v u.0 (at_found p.columns.items k u.0 (touched_below k (in_get c.touched.keys f.0 0 l)) u.1) (has nat_eq names u.0) u.2

  pub meant : IsMeant p c
  meant = record {
    touched = touched_below;
    columns = many;
    domains = sym (length-map c.domains.items set_by) ∙ ap length change.domains ∙ sym change.numbers.many;
    distinct = change.touched.distinct;
    apart = change.numbers.distinct;
    known = known;
  }

-- ===== what the calls ask for

pub all_in : (P : ℕ → Type 0) (ks : List ℕ) → ((k : ℕ) → IsIn k ks → P k) → All P ks
all_in P [] h = All-nil P
all_in P (k ∷ ks) h = All-cons P k ks (h k (inl refl)) (all_in P ks (λ j i. h j (inr i)))

-- a face has a domain for each of its names
pub face_wide : (p : Pattern) (arguments : List (Tree ℕ)) (g : Goal ℕ) → g.arguments ≡ trees_of arguments → length (face (row_in p) g).domains ≡ length (names_at p.columns.items arguments)
face_wide p arguments g e =
    face-variables (row_in p) g
    ∙ ap length (names-canon (pattern_by p.columns.items p.domains.items) g)
    ∙ length-map (names_under (pattern_by p.columns.items p.domains.items) g) _
    ∙ ap (λ ts. length (firsts nat_eq [] (variables_all (put_all (column (trees_of p.columns.items)) ts)))) e

pub numbers_by : (f f2 n n2 : ℕ) (ns ns2 xs : List ℕ) → AreNumbers f n ns xs → f ≡ f2 → n ≡ n2 → ns ≡ ns2 → AreNumbers f2 n2 ns2 xs
numbers_by f f2 n n2 ns ns2 xs h a b e = subst (λ x. AreNumbers x n2 ns2 xs) a (subst (λ x. AreNumbers f x ns2 xs) b (subst (λ x. AreNumbers f n x xs) e h))
