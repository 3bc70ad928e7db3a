-- Where the ways of a configuration lead does not lie in the numbers of its variables.
use Rattle.std.proofs.Common.{◌≡◌, ℕ, zero, suc, ◌+◌, ◌⊎◌, inl, inr, List, [], ◌∷◌, ◌++◌, length, map, Option, refl, ap, sym, ◌∙◌, subst, arith}
use Rattle.std.specs.Prelude.{nat_eq, cond}
use Rattle.std.proofs.lemmas.List.{map-append}
use Rattle.pp_algebra.specs.Terms.{Tree, Trees, none, more, put, put_all, variables, variables_all}
use Rattle.pp_algebra.specs.Rows.{Domain, Domains, Pattern, Row, domain_at, pattern_of, IsNumbered, IsRow, AreWide}
use Rattle.pp_algebra.specs.Covers.{IsIn, MayGo}
use Rattle.pp_algebra.specs.Canon.{canon}
use Rattle.pp_algebra.specs.Solve.{Item, equation, membership, put_item, equations, Meets, IsSolved, HasNone}
use Rattle.pp_algebra.specs.Stages.{pattern, with_fresh, moved, ColumnsSpeakOf, TermSpeaksOf, ItemsSpeakOf}
use Rattle.pp_algebra.proofs.Put.{put-put, put_all-put_all, count-put_all}
use Rattle.pp_algebra.proofs.Antisym.{put-agree, put_all-agree}
use Rattle.pp_algebra.proofs.Order.{IsIn-left, IsIn-right, covers_through}
use Rattle.pp_algebra.proofs.CanonLemmas.{nat_eq-IsSame, has-all, canon-covers}
use Rattle.pp_algebra.proofs.Member.{members}
use Rattle.pp_algebra.proofs.Resume.{ren, ren-goes, ren-columns, canon-IsRow, spare, wide_at}
use Rattle.pp_algebra.proofs.Solving.{in_stages}
use Rattle.pp_sld.specs.Goals.{Goal, Clause, Config, put_goal, with_goals, row_of}
use Rattle.pp_sld.specs.Ways.{Way, two_domains, old, new, around, Leads, IsDead, clause_way, built_in_way}
use Rattle.pp_algebra.specs.Numbered.{variables_from}
use Rattle.pp_moves.specs.Numbered.{terms_of, number_in, numbered}
use Rattle.pp_moves.specs.Laws.{TermStands, ItemsStand, CallsAreNumbered, BuiltInsAreNumbered}
use Rattle.pp_sld.proofs.Exists.{put-with_goals, shapes-put}
use Rattle.pp_moves.proofs.Places.{in_columns, in_goals, in_either, in_parts, in_before, in_after, in_first, in_rest, goals-agree, goals-put, equations-put, comes_from, comes_all, comes_goals}

-- ===== domains that are the same

module _ {V : Type 0} (D E : Domains V) (same : (v : V) → D v ≡ E v) (ts : Trees V) (is : List (Item V)) where
  meets_same : (q : Row) → Meets (pattern ts D) is q → Meets (pattern ts E) is q
  meets_same q m = record { by = m.by; columns = m.columns; domains = λ v. subst (λ d. MayGo (domain_at q.domains) d (m.by v)) (same v) (m.domains v); holds = m.holds }

module _ {V : Type 0} (D E : Domains V) (same : (v : V) → D v ≡ E v) (ts : Trees V) (is : List (Item V)) where
  pub solved_same : (q : Row) → IsSolved (pattern ts D) is q → IsSolved (pattern ts E) is q
  solved_same q s = record { row = s.row; meets = meets_same D E same ts is q s.meets; most = λ p w m. s.most p w (meets_same E D (λ v. sym (same v)) ts is p m) }

  pub none_same : HasNone (pattern ts D) is → HasNone (pattern ts E) is
  none_same n q w m = n q w (meets_same E D (λ v. sym (same v)) ts is q m)

pub fresh_same : (ds : List (Option Domain)) (v : ℕ ⊎ ℕ) → with_fresh ℕ (domain_at ds) v ≡ two_domains ds v
fresh_same ds (inl v) = refl
fresh_same ds (inr v) = refl

pub same_fresh : (ds es : List (Option Domain)) → ds ≡ es → (v : ℕ ⊎ ℕ) → two_domains ds v ≡ with_fresh ℕ (domain_at es) v
same_fresh ds es e (inl v) = ap (λ x. domain_at x v) e
same_fresh ds es e (inr v) = refl

-- ===== a configuration is its own solution, numbered

pub from-numbered : (first n : ℕ) → IsNumbered first (variables_all (variables_from first n)) (first + n)
from-numbered first zero = omega arith
from-numbered first (suc n) =
    let e : suc first + n ≡ first + suc n = omega arith in
    inr (refl, subst (IsNumbered (suc first) (variables_all (variables_from (suc first) n))) e (from-numbered (suc first) n))

module _ (c : Config) (wide : AreWide c.domains) where
  abbrev all : Row
  all = record { columns = variables_from 0 (length c.domains); domains = c.domains }

  all_row : IsRow all
  all_row =
      let e : 0 + length c.domains ≡ length c.domains = omega arith in
      record { canonical = subst (IsNumbered 0 (variables_all (variables_from 0 (length c.domains)))) e (from-numbered 0 (length c.domains)); wide = wide }

  abbrev ts : Trees ℕ
  ts = terms_of c

  abbrev whole : Pattern ℕ
  whole = pattern ts (domain_at c.domains)

  abbrev s : ℕ → Tree ℕ
  s = number_in c

  abbrev by : ℕ → Tree ℕ
  by = ren members all all_row ts

  itself : IsSolved whole [] (canon nat_eq whole)
  itself = record {
    row = canon-IsRow members all all_row ts;
    meets = record { by = by; columns = ren-columns members all all_row ts; domains = ren-goes members all all_row ts; holds = tt };
    most = λ q w m. covers_through (pattern_of (canon nat_eq whole)) whole (pattern_of q) (canon-covers nat_eq nat_eq-IsSame whole) (record { by = m.by; columns = m.columns; domains = λ v i. m.domains v });
  }

  -- each variable that stands in it becomes its number
  by-number : (v : ℕ) → IsIn v (variables_all ts) → by v ≡ s v
  by-number v i = ap (λ b. cond b (s v) (spare members all all_row ts (domain_at c.domains v) (wide_at c.domains v (all_row).wide))) (has-all nat_eq nat_eq-IsSame [] (variables_all ts) v i)

  abbrev m : ℕ ⊎ ℕ → Tree (ℕ ⊎ ℕ)
  m = moved ℕ by

  abbrev moved_way : Way → Way
  moved_way w = record { goals = map (put_goal m) w.goals; columns = put_all m w.columns; domains = (numbered c).domains; items = map (put_item m) w.items; depth = w.depth }

  module _ (w : Way) (same : w.domains ≡ c.domains) (columns : ColumnsSpeakOf ts (with_goals w.goals w.columns)) (items : ItemsSpeakOf ts w.items) where
    abbrev us : Trees (ℕ ⊎ ℕ)
    us = with_goals w.goals w.columns

    leads_moved : (d : Config) → Leads w d → Leads (moved_way w) d
    unfolding itself
    leads_moved d l =
        let there = solved_same (two_domains w.domains) (with_fresh ℕ (domain_at c.domains)) (same_fresh w.domains c.domains same) us w.items (row_of d) l.solved in
        let staged = ((in_stages {U = ℕ} {W = ℕ} ts (domain_at c.domains) [] (canon nat_eq whole) itself us w.items columns items).0 (row_of d)).0 there in
        let back = solved_same (with_fresh ℕ (domain_at (numbered c).domains)) (two_domains (numbered c).domains) (fresh_same (numbered c).domains) (put_all m us) (map (put_item m) w.items) (row_of d) staged in
        record {
          solved = subst (λ xs. IsSolved (pattern xs (two_domains (numbered c).domains)) (map (put_item m) w.items) (row_of d)) (put-with_goals m w.goals w.columns) back;
          goals = l.goals ∙ sym (shapes-put m w.goals);
          columns = l.columns ∙ sym (count-put_all m w.columns);
          depth = l.depth;
        }

    dead_moved : IsDead w → IsDead (moved_way w)
    unfolding itself
    dead_moved n =
        let there = none_same (two_domains w.domains) (with_fresh ℕ (domain_at c.domains)) (same_fresh w.domains c.domains same) us w.items n in
        let staged = ((in_stages {U = ℕ} {W = ℕ} ts (domain_at c.domains) [] (canon nat_eq whole) itself us w.items columns items).1).0 there in
        let back = none_same (with_fresh ℕ (domain_at (numbered c).domains)) (two_domains (numbered c).domains) (fresh_same (numbered c).domains) (put_all m us) (map (put_item m) w.items) staged in
        subst (λ xs. HasNone (pattern xs (two_domains (numbered c).domains)) (map (put_item m) w.items)) (put-with_goals m w.goals w.columns) back

  -- ===== old and fresh parts

  abbrev Stand : List (Goal ℕ) → Type 0
  Stand gs = (v : ℕ) → IsIn v (variables_all (with_goals gs none)) → IsIn v (variables_all ts)

  old_goals : (gs : List (Goal ℕ)) → Stand gs → map (put_goal m) (map (put_goal old) gs) ≡ map (put_goal old) (map (put_goal s) gs)
  old_goals gs h = goals-put m old gs ∙ goals-agree (λ v. put old (by v)) (λ v. put old (s v)) gs (λ v i. ap (put old) (by-number v (h v i))) ∙ sym (goals-put old s gs)

  new_goals : (gs : List (Goal ℕ)) → map (put_goal m) (map (put_goal new) gs) ≡ map (put_goal new) gs
  new_goals gs = goals-put m new gs

  old_columns : (xs : Trees ℕ) → ((v : ℕ) → IsIn v (variables_all xs) → IsIn v (variables_all ts)) → put_all m (put_all old xs) ≡ put_all old (put_all s xs)
  old_columns xs h = put_all-put_all m old xs ∙ put_all-agree (λ v. put old (by v)) (λ v. put old (s v)) xs (λ v i. ap (put old) (by-number v (h v i))) ∙ sym (put_all-put_all old s xs)

  old_term : (t : Tree ℕ) → TermStands c t → put m (put old t) ≡ put old (put s t)
  old_term t h = put-put m old t ∙ put-agree (λ v. put old (by v)) (λ v. put old (s v)) t (λ v i. ap (put old) (by-number v (h v i))) ∙ sym (put-put old s t)

  old_items : (is : List (Item ℕ)) → ItemsStand c is → map (put_item m) (map (put_item old) is) ≡ map (put_item old) (map (put_item s) is)
  old_items [] h = refl
  old_items (equation a b ∷ is) h = rw (old_term a h.0, old_term b h.1, old_items is h.2) refl
  old_items (membership t d ∷ is) h = rw (old_term t h.0, old_items is h.1) refl

  module _ (before : List (Goal ℕ)) (body : List (Goal ℕ)) (after : List (Goal ℕ)) (stand_before : Stand before) (stand_after : Stand after) where
    around_moved : map (put_goal m) (around before (map (put_goal new) body) after) ≡ around (map (put_goal s) before) (map (put_goal new) body) (map (put_goal s) after)
    around_moved =
        map-append (put_goal m) (map (put_goal old) before ++ map (put_goal new) body) (map (put_goal old) after)
        ∙ ap (λ xs. xs ++ map (put_goal m) (map (put_goal old) after)) (map-append (put_goal m) (map (put_goal old) before) (map (put_goal new) body))
        ∙ ap (λ xs. xs ++ map (put_goal m) (map (put_goal new) body) ++ map (put_goal m) (map (put_goal old) after)) (old_goals before stand_before)
        ∙ ap (λ xs. map (put_goal old) (map (put_goal s) before) ++ xs ++ map (put_goal m) (map (put_goal old) after)) (new_goals body)
        ∙ ap (λ xs. map (put_goal old) (map (put_goal s) before) ++ map (put_goal new) body ++ xs) (old_goals after stand_after)

    is_old : (v u : ℕ) → IsIn {V = ℕ ⊎ ℕ} (inl u) (inl v ∷ []) → v ≡ u
    is_old v u (inl e) = cc e
    is_old v u (inr j) = absurd j

    is_new : (v u : ℕ) → IsIn {V = ℕ ⊎ ℕ} (inl u) (inr v ∷ []) → ⊥
    is_new v u (inl e) = absurd (cc e)
    is_new v u (inr j) = absurd j

    old_speaks : (xs : Trees ℕ) → ((v : ℕ) → IsIn v (variables_all xs) → IsIn v (variables_all ts)) → ColumnsSpeakOf {U = ℕ} {W = ℕ} ts (put_all old xs)
    old_speaks xs h u i = let a = comes_all old xs (inl u) i in subst (λ v. IsIn v (variables_all ts)) (is_old a.0 u a.2) (h a.0 a.1)

    new_speaks : (xs : Trees ℕ) → ColumnsSpeakOf {U = ℕ} {W = ℕ} ts (put_all new xs)
    new_speaks xs u i = let a = comes_all new xs (inl u) i in absurd (is_new a.0 u a.2)

    old_goals_speak : (gs : List (Goal ℕ)) → Stand gs → (u : ℕ) → IsIn (inl u) (variables_all (with_goals (map (put_goal old) gs) none)) → IsIn u (variables_all ts)
    old_goals_speak gs h u i = let a = comes_goals old gs (inl u) i in subst (λ v. IsIn v (variables_all ts)) (is_old a.0 u a.2) (h a.0 a.1)

    around_speaks : (u : ℕ) → IsIn (inl u) (variables_all (with_goals (around before (map (put_goal new) body) after) none)) → IsIn u (variables_all ts)
    around_speaks u i = elim (in_parts (map (put_goal old) before ++ map (put_goal new) body) (map (put_goal old) after) (inl u) i) [
      | inl j ↦ elim (in_parts (map (put_goal old) before) (map (put_goal new) body) (inl u) j) [
        | inl k ↦ old_goals_speak before stand_before u k
        | inr k ↦ let a = comes_goals new body (inl u) k in absurd (is_new a.0 u a.2)
      ]
      | inr j ↦ old_goals_speak after stand_after u j
    ]

    pub columns_speak : ColumnsSpeakOf {U = ℕ} {W = ℕ} ts (with_goals (around before (map (put_goal new) body) after) (put_all old c.columns))
    columns_speak u i = elim (in_either (around before (map (put_goal new) body) after) (put_all old c.columns) (inl u) i) [
      | inl j ↦ around_speaks u j
      | inr j ↦ old_speaks c.columns (λ v k. in_columns c.goals c.columns v k) u j
    ]

    equations_speak : (xs ys : Trees (ℕ ⊎ ℕ)) → ColumnsSpeakOf {U = ℕ} {W = ℕ} ts xs → ColumnsSpeakOf {U = ℕ} {W = ℕ} ts ys → ItemsSpeakOf {U = ℕ} {W = ℕ} ts (equations xs ys)
    equations_speak none ys f g = tt
    equations_speak (more x xs) none f g = tt
    equations_speak (more x xs) (more y ys) f g = (
      (λ u i. f u (IsIn-left (inl u) (variables x) (variables_all xs) i)),
      (λ u i. g u (IsIn-left (inl u) (variables y) (variables_all ys) i)),
      equations_speak xs ys (λ u i. f u (IsIn-right (inl u) (variables x) (variables_all xs) i)) (λ u i. g u (IsIn-right (inl u) (variables y) (variables_all ys) i)),
    )

    old_term_speaks : (t : Tree ℕ) → TermStands c t → TermSpeaksOf {U = ℕ} {W = ℕ} ts (put old t)
    old_term_speaks t h u i = let a = comes_from old t (inl u) i in subst (λ v. IsIn v (variables_all ts)) (is_old a.0 u a.2) (h a.0 a.1)

    pub old_items_speak : (is : List (Item ℕ)) → ItemsStand c is → ItemsSpeakOf {U = ℕ} {W = ℕ} ts (map (put_item old) is)
    old_items_speak [] h = tt
    old_items_speak (equation a b ∷ is) h = (old_term_speaks a h.0, old_term_speaks b h.1, old_items_speak is h.2)
    old_items_speak (membership t d ∷ is) h = (old_term_speaks t h.0, old_items_speak is h.1)

  -- ===== the two kinds of ways

  abbrev way_by : List (Goal (ℕ ⊎ ℕ)) → Trees (ℕ ⊎ ℕ) → List (Item (ℕ ⊎ ℕ)) → ℕ → Way
  way_by gs xs is depth = record { goals = gs; columns = xs; domains = (numbered c).domains; items = is; depth = depth }

  module _ (before : List (Goal ℕ)) (g : Goal ℕ) (after : List (Goal ℕ)) (e : c.goals ≡ before ++ g ∷ after) where
    in_config : Stand (before ++ g ∷ after)
    in_config v i = in_goals c.goals c.columns v (subst (λ gs. IsIn v (variables_all (with_goals gs none))) (sym e) i)

    pub in_front : Stand before
    in_front v i = in_config v (in_before before (g ∷ after) v i)

    pub behind : Stand after
    behind v i = in_config v (in_after before (g ∷ after) v (in_rest g after v i))

    pub in_goal : (v : ℕ) → IsIn v (variables_all g.arguments) → IsIn v (variables_all ts)
    in_goal v i = in_config v (in_after before (g ∷ after) v (in_first g after v i))

    columns_moved : put_all m (put_all old c.columns) ≡ put_all old (put_all s c.columns)
    columns_moved = old_columns c.columns (λ v i. in_columns c.goals c.columns v i)

    module _ (depth : ℕ) (cl : Clause) where
      call_moved : moved_way (clause_way c before g after depth cl) ≡ clause_way (numbered c) (map (put_goal s) before) (put_goal s g) (map (put_goal s) after) depth cl
      call_moved =
          let items : map (put_item m) (equations (put_all new cl.head) (put_all old g.arguments)) ≡ equations (put_all new cl.head) (put_all old (put_all s g.arguments)) =
          equations-put m (put_all new cl.head) (put_all old g.arguments) ∙ ap (λ xs. equations xs (put_all m (put_all old g.arguments))) (put_all-put_all m new cl.head) ∙ ap (equations (put_all new cl.head)) (old_columns g.arguments in_goal) in
          ap (λ gs. way_by gs (put_all m (put_all old c.columns)) (map (put_item m) (equations (put_all new cl.head) (put_all old g.arguments))) depth) (around_moved before cl.body after in_front behind)
          ∙ ap (λ xs. way_by (around (map (put_goal s) before) (map (put_goal new) cl.body) (map (put_goal s) after)) xs (map (put_item m) (equations (put_all new cl.head) (put_all old g.arguments))) depth) columns_moved
          ∙ ap (λ is. way_by (around (map (put_goal s) before) (map (put_goal new) cl.body) (map (put_goal s) after)) (put_all old (put_all s c.columns)) is depth) items

      pub call_columns : ColumnsSpeakOf {U = ℕ} {W = ℕ} ts (with_goals (around before (map (put_goal new) cl.body) after) (put_all old c.columns))
      call_columns = columns_speak before cl.body after in_front behind

      pub call_items : ItemsSpeakOf {U = ℕ} {W = ℕ} ts (equations (put_all new cl.head) (put_all old g.arguments))
      call_items = equations_speak before cl.body after in_front behind (put_all new cl.head) (put_all old g.arguments) (new_speaks before cl.body after in_front behind cl.head) (old_speaks before cl.body after in_front behind g.arguments in_goal)

      call_leads : (d : Config) → Leads (clause_way c before g after depth cl) d → Leads (clause_way (numbered c) (map (put_goal s) before) (put_goal s g) (map (put_goal s) after) depth cl) d
      call_leads d l = subst (λ w. Leads w d) call_moved (leads_moved (clause_way c before g after depth cl) refl call_columns call_items d l)

      call_dead : IsDead (clause_way c before g after depth cl) → IsDead (clause_way (numbered c) (map (put_goal s) before) (put_goal s g) (map (put_goal s) after) depth cl)
      call_dead n = subst IsDead call_moved (dead_moved (clause_way c before g after depth cl) refl call_columns call_items n)

    module _ (is : List (Item ℕ)) (stand : ItemsStand c is) where
      solve_moved : moved_way (built_in_way c before after is) ≡ built_in_way (numbered c) (map (put_goal s) before) (map (put_goal s) after) (map (put_item s) is)
      solve_moved =
          ap (λ gs. way_by gs (put_all m (put_all old c.columns)) (map (put_item m) (map (put_item old) is)) c.depth) (around_moved before [] after in_front behind)
          ∙ ap (λ xs. way_by (around (map (put_goal s) before) [] (map (put_goal s) after)) xs (map (put_item m) (map (put_item old) is)) c.depth) columns_moved
          ∙ ap (λ js. way_by (around (map (put_goal s) before) [] (map (put_goal s) after)) (put_all old (put_all s c.columns)) js c.depth) (old_items is stand)

      solve_leads : (d : Config) → Leads (built_in_way c before after is) d → Leads (built_in_way (numbered c) (map (put_goal s) before) (map (put_goal s) after) (map (put_item s) is)) d
      solve_leads d l = subst (λ w. Leads w d) solve_moved (leads_moved (built_in_way c before after is) refl (columns_speak before [] after in_front behind) (old_items_speak before [] after in_front behind is stand) d l)

      solve_dead : IsDead (built_in_way c before after is) → IsDead (built_in_way (numbered c) (map (put_goal s) before) (map (put_goal s) after) (map (put_item s) is))
      solve_dead n = subst IsDead solve_moved (dead_moved (built_in_way c before after is) refl (columns_speak before [] after in_front behind) (old_items_speak before [] after in_front behind is stand) n)

pub calls_are_numbered : CallsAreNumbered
calls_are_numbered c wide before g after e depth cl = (call_leads c wide before g after e depth cl, call_dead c wide before g after e depth cl)

pub built_ins_are_numbered : BuiltInsAreNumbered
built_ins_are_numbered c wide before g after e is stand = (solve_leads c wide before g after e is stand, solve_dead c wide before g after e is stand)

-- the row of a configuration that is numbered
pub row_numbered : (c : Config) → canon nat_eq (pattern (terms_of c) (domain_at c.domains)) ≡ row_of (numbered c)
row_numbered c = ap (λ us. let r : Row = record { columns = us; domains = (numbered c).domains } in r) (put-with_goals (number_in c) c.goals c.columns)
