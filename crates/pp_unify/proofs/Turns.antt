-- Items that are solved one after another.
use Rattle.std.proofs.Common.{◌≡◌, ℕ, ◌<◌, List, [], ◌∷◌, map, All, Some, refl, ap, sym, ◌∙◌, subst, inl, inr}
use Rattle.std.proofs.lemmas.List.Elements.{All-head, All-tail}
use Rattle.pp_algebra.specs.Terms.{Tree, variable, count, put, put_all}
use Rattle.pp_algebra.specs.Rows.{Domains, Row, domain_at, pattern_of, IsRow}
use Rattle.pp_algebra.specs.Covers.{IsIn, MayGo}
use Rattle.pp_algebra.specs.Solve.{Item, equation, membership, Holds, AllHold, Meets, IsSolved, HasNone, Solvable}
use Rattle.pp_algebra.proofs.Put.{put-put, put_all-put_all, put_all-variable, count-put_all}
use Rattle.pp_algebra.proofs.Antisym.{put-agree}
use Rattle.pp_algebra.proofs.Order.{goes_further, may_stay}
use Rattle.pp_algebra.proofs.Law.{solved_once}
use Rattle.pp_algebra.proofs.Solved.{rows_solve}
use Rattle.pp_algebra.proofs.Solving.{covers-goes, any_order}
use Rattle.pp_unify.specs.States.{value_in, IsOver}
use Rattle.pp_algebra.specs.Numbered.{column}
use Rattle.pp_unify.specs.Laws.{item_in, IsItemOver, AreSolved, OneHasNone, SolvedInTurn, SolvedInAnyTurn}
use Rattle.pp_algebra.proofs.Numbered.{column-put}

over_by : (r q : Row) (t : Tree ℕ) → count q.columns ≡ count r.columns → IsOver r t → IsOver q t
over_by r q t e h = λ v i. subst (λ n. v < n) (sym e) (h v i)

item_over_by : (r q : Row) (i : Item ℕ) → count q.columns ≡ count r.columns → IsItemOver r i → IsItemOver q i
item_over_by r q (equation a b) e h = (over_by r q a e h.0, over_by r q b e h.1)
item_over_by r q (membership t d) e h = over_by r q t e h

-- the same items over the columns of two rows that go to the same terms
module _ (ds : Domains ℕ) (b c : ℕ → Tree ℕ) (r q : Row) (same : (v : ℕ) → v < count r.columns → put b (value_in r v) ≡ put c (value_in q v)) where
  same_term : (t : Tree ℕ) → IsOver r t → put b (put (value_in r) t) ≡ put c (put (value_in q) t)
  same_term t o = put-put b (value_in r) t ∙ put-agree (λ v. put b (value_in r v)) (λ v. put c (value_in q v)) t (λ v i. same v (o v i)) ∙ sym (put-put c (value_in q) t)

  same_item : (i : Item ℕ) → IsItemOver r i → Holds ds b (item_in r i) → Holds ds c (item_in q i)
  same_item (equation x y) o h = sym (same_term x o.0) ∙ h ∙ same_term y o.1
  same_item (membership t d) o h = subst (MayGo ds (Some d)) (same_term t o) h

  same_items : (is : List (Item ℕ)) → All (IsItemOver r) is → AllHold ds b (map (item_in r) is) → AllHold ds c (map (item_in q) is)
  same_items [] o h = tt
  same_items (i ∷ is) o h = (same_item i (All-head (IsItemOver r) i is o) h.0, same_items is (All-tail (IsItemOver r) i is o) h.1)

all_over : (r q : Row) (is : List (Item ℕ)) → count q.columns ≡ count r.columns → All (IsItemOver r) is → All (IsItemOver q) is
all_over r q is e h = λ k d l. item_over_by r q _ e (h k d l)

-- one item, and then others on the row that it gave
module _ (r q p : Row) (i : Item ℕ) (s : IsSolved (pattern_of r) (i ∷ []) q) (is : List (Item ℕ)) (o : All (IsItemOver r) is) where
  pub wide_as : count q.columns ≡ count r.columns
  wide_as = ap count (sym s.meets.columns) ∙ count-put_all s.meets.by r.columns

  later_value : (b : ℕ → Tree ℕ) (v : ℕ) → v < count r.columns → put (λ w. put b (s.meets.by w)) (value_in r v) ≡ put b (value_in q v)
  later_value b v l = sym (put-put b s.meets.by (value_in r v)) ∙ ap (put b) (sym (column-put s.meets.by r.columns v l) ∙ ap (λ ts. column ts v) s.meets.columns)

  still : (ds : Domains ℕ) (b : ℕ → Tree ℕ) (j : Item ℕ) → ((v : ℕ) → MayGo ds (domain_at q.domains v) (b v)) → Holds (domain_at q.domains) s.meets.by j → Holds ds (λ v. put b (s.meets.by v)) j
  still ds b (equation x y) g h = sym (put-put b s.meets.by x) ∙ ap (put b) h ∙ put-put b s.meets.by y
  still ds b (membership t d) g h = subst (MayGo ds (Some d)) (put-put b s.meets.by t) (goes_further (domain_at q.domains) ds b (Some d) (put s.meets.by t) (λ v _. g v) h)

  pub meets_both : Meets (pattern_of q) (map (item_in q) is) p → Meets (pattern_of r) (i ∷ map (item_in r) is) p
  meets_both m = record {
    by = λ v. put m.by (s.meets.by v);
    columns = sym (put_all-put_all m.by s.meets.by r.columns) ∙ ap (put_all m.by) s.meets.columns ∙ m.columns;
    domains = λ v. goes_further (domain_at q.domains) (domain_at p.domains) m.by (domain_at r.domains v) (s.meets.by v) (λ w _. m.domains w) (s.meets.domains v);
    holds = (
      still (domain_at p.domains) m.by i m.domains s.meets.holds.0,
      same_items (domain_at p.domains) m.by (λ v. put m.by (s.meets.by v)) q r (λ v l. sym (later_value m.by v (subst (λ k. v < k) wide_as l))) is (all_over r q is wide_as o) m.holds,
    );
  }

  pub meets_first : Meets (pattern_of r) (i ∷ map (item_in r) is) p → Meets (pattern_of r) (i ∷ []) p
  meets_first m = record { by = m.by; columns = m.columns; domains = m.domains; holds = (m.holds.0, tt) }

  pub meets_later : IsRow p → Meets (pattern_of r) (i ∷ map (item_in r) is) p → Meets (pattern_of q) (map (item_in q) is) p
  meets_later w m =
      let c = s.most p w (meets_first m) in
      let same : (v : ℕ) → v < count r.columns → put m.by (value_in r v) ≡ put c.by (value_in q v) = λ v l.
      sym (column-put m.by r.columns v l) ∙ ap (λ ts. column ts v) (m.columns ∙ sym c.columns) ∙ column-put c.by q.columns v (subst (λ k. v < k) (sym wide_as) l) in
      record {
        by = c.by;
        columns = c.columns;
        domains = covers-goes q p s.row c;
        holds = same_items (domain_at p.domains) m.by c.by r q same is o m.holds.1;
      }

-- a row without items is its own solution
itself : (r : Row) → IsRow r → IsSolved (pattern_of r) [] r
itself r h = record {
  row = h;
  meets = record { by = variable; columns = put_all-variable r.columns; domains = λ v. may_stay (domain_at r.domains) v (domain_at r.domains v) refl; holds = tt };
  most = λ q w m. record { by = m.by; columns = m.columns; domains = λ v _. m.domains v };
}

first_of_all : (r p : Row) (i : Item ℕ) (is : List (Item ℕ)) → Meets (pattern_of r) (i ∷ is) p → Meets (pattern_of r) (i ∷ []) p
first_of_all r p i is m = record { by = m.by; columns = m.columns; domains = m.domains; holds = (m.holds.0, tt) }

solvable : (r : Row) (i : Item ℕ) → IsRow r → Solvable (pattern_of r) (item_in r i ∷ [])
solvable r i h = rows_solve r.domains r.columns (item_in r i ∷ []) h.wide

both_solved : (r q p : Row) (i : Item ℕ) (is : List (Item ℕ)) (s : IsSolved (pattern_of r) (i ∷ []) q) → All (IsItemOver r) is → IsSolved (pattern_of q) (map (item_in q) is) p → IsSolved (pattern_of r) (i ∷ map (item_in r) is) p
both_solved r q p i is s o h = record { row = h.row; meets = meets_both r q p i s is o h.meets; most = λ x w m. h.most x w (meets_later r q x i s is o w m) }

later_solved : (r q p : Row) (i : Item ℕ) (is : List (Item ℕ)) (s : IsSolved (pattern_of r) (i ∷ []) q) → All (IsItemOver r) is → IsSolved (pattern_of r) (i ∷ map (item_in r) is) p → IsSolved (pattern_of q) (map (item_in q) is) p
later_solved r q p i is s o h = record { row = h.row; meets = meets_later r q p i s is o h.row h.meets; most = λ x w m. h.most x w (meets_both r q x i s is o m) }

at_once : (is : List (Item ℕ)) (r p : Row) → IsRow r → All (IsItemOver r) is → AreSolved r is p → IsSolved (pattern_of r) (map (item_in r) is) p
at_once [] r p h o e = subst (IsSolved (pattern_of r) []) e (itself r h)
at_once (i ∷ is) r p h o a =
    let rest = All-tail (IsItemOver r) i is o in
    both_solved r a.0 p (item_in r i) is a.1 rest (at_once is a.0 p a.1.row (all_over r a.0 is (wide_as r a.0 p (item_in r i) a.1 is rest) rest) a.2)

in_turn : (is : List (Item ℕ)) (r p : Row) → IsRow r → All (IsItemOver r) is → IsSolved (pattern_of r) (map (item_in r) is) p → AreSolved r is p
in_turn [] r p h o s = solved_once (pattern_of r) [] r p (itself r h) s
in_turn (i ∷ is) r p h o s =
    let rest = All-tail (IsItemOver r) i is o in
    elim (solvable r i h) [
      | inl a ↦ (a.0, a.1, in_turn is a.0 p a.1.row (all_over r a.0 is (wide_as r a.0 p (item_in r i) a.1 is rest) rest) (later_solved r a.0 p (item_in r i) is a.1 rest s))
      | inr n ↦ absurd (n p s.row (first_of_all r p (item_in r i) (map (item_in r) is) s.meets))
    ]

none_at_once : (is : List (Item ℕ)) (r : Row) → IsRow r → All (IsItemOver r) is → OneHasNone r is → HasNone (pattern_of r) (map (item_in r) is)
none_at_once [] r h o n = absurd n
none_at_once (i ∷ is) r h o (inl n) = λ p w m. n p w (first_of_all r p (item_in r i) (map (item_in r) is) m)
none_at_once (i ∷ is) r h o (inr a) =
    let rest = All-tail (IsItemOver r) i is o in
    λ p w m. none_at_once is a.0 a.1.row (all_over r a.0 is (wide_as r a.0 p (item_in r i) a.1 is rest) rest) a.2 p w (meets_later r a.0 p (item_in r i) a.1 is rest w m)

none_in_turn : (is : List (Item ℕ)) (r : Row) → IsRow r → All (IsItemOver r) is → HasNone (pattern_of r) (map (item_in r) is) → OneHasNone r is
none_in_turn [] r h o n = n r h (itself r h).meets
none_in_turn (i ∷ is) r h o n =
    let rest = All-tail (IsItemOver r) i is o in
    elim (solvable r i h) [
      | inl a ↦ inr (a.0, a.1, none_in_turn is a.0 a.1.row (all_over r a.0 is (wide_as r a.0 r (item_in r i) a.1 is rest) rest) (λ p w m. n p w (meets_both r a.0 p (item_in r i) a.1 is rest m)))
      | inr k ↦ inl k
    ]

pub solved_in_turn : SolvedInTurn
solved_in_turn r is h o = (λ p. (at_once is r p h o, in_turn is r p h o), (none_at_once is r h o, none_in_turn is r h o))

in_map : (f : Item ℕ → Item ℕ) (is : List (Item ℕ)) (j : Item ℕ) → IsIn j (map f is) → (i : Item ℕ) × IsIn i is × (f i ≡ j)
in_map f [] j k = absurd k
in_map f (i ∷ is) j (inl e) = (i, inl refl, e)
in_map f (i ∷ is) j (inr k) = let r = in_map f is j k in (r.0, inr r.1, r.2)

map_in : (f : Item ℕ → Item ℕ) (is : List (Item ℕ)) (i : Item ℕ) → IsIn i is → IsIn (f i) (map f is)
map_in f [] i k = absurd k
map_in f (j ∷ is) i (inl e) = inl (ap f e)
map_in f (j ∷ is) i (inr k) = inr (map_in f is i k)

same_map : (f : Item ℕ → Item ℕ) (is js : List (Item ℕ)) → ((i : Item ℕ) → IsIn i is → IsIn i js) → (i : Item ℕ) → IsIn i (map f is) → IsIn i (map f js)
same_map f is js h i k = let r = in_map f is i k in subst (λ x. IsIn x (map f js)) r.2 (map_in f js r.0 (h r.0 r.1))

pub solved_in_any_turn : SolvedInAnyTurn
solved_in_any_turn r is js h o u e =
    let s = solved_in_turn r is h o in
    let t = solved_in_turn r js h u in
    let a = any_order (pattern_of r) (map (item_in r) is) (map (item_in r) js) (same_map (item_in r) is js e.0, same_map (item_in r) js is e.1) in (
      λ p. (λ x. (t.0 p).1 ((a.0 p).0 ((s.0 p).0 x)), λ x. (s.0 p).1 ((a.0 p).1 ((t.0 p).0 x))),
      (λ x. t.1.1 (a.1.0 (s.1.0 x)), λ x. s.1.1 (a.1.1 (t.1.0 x))),
    )
