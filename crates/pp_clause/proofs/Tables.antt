-- The parts of the table, while a clause is added.
use Rattle.std.proofs.Common.{◌≡◌, ℕ, ◌+◌, ◌<◌, ◌≤◌, ◌^◌, List, [], ◌∷◌, ◌++◌, length, map, take, set, Some, ap, sym, ◌∙◌, subst, arith, append-nil, append_assoc, length-append, get_or}
use Rattle.std.specs.Prelude.{slice_get}
use Rattle.std.proofs.Math.ListN.{length-map}
use Rattle.std.proofs.lemmas.List.{take-map, take_at, set-get_or}
use Rattle.std.proofs.lemmas.List.Elements.{All-nil, All-cons, All-append}
use Rattle.pp_algebra.specs.Canon.{firsts}
use Rattle.pp_row.specs.declared.cell.Cell.{Cell}
use Rattle.pp_term.specs.declared.pred.Pred.{Pred}
use Rattle.pp_term.specs.declared.clause.Clause.{Clause}
use Rattle.pp_term.specs.Meanings.{predicate_of, program}
use Rattle.pp_term.specs.WellFormed.{IsClause}
use Rattle.pp_clause.specs.declared.first.First.{First}
use Rattle.pp_clause.specs.declared.code.Coded.{Coded}
use Rattle.pp_clause.specs.Predicates.{same_pred, mentioned, predicates}
use Rattle.pp_clause.specs.Table.{pred_of, IsGrown, IsNumber, IsCoded, AreCoded, AreGroups, AddsEmpty, IsTable}
use Rattle.pp_clause.proofs.Numbers.{grown_none, grown_firsts}
use Rattle.pp_clause.proofs.Spans.{clauses_stay, clauses_push, coded_front, coded_extra}
use Rattle.pp_clause.proofs.Groups.{predicates-push, with_clause, groups_grow, groups_push, before, length-same}

abbrev Group : Type 0
Group = List ℕ × List First

pub adds_none : (gs : List Group) → AddsEmpty gs gs
adds_none gs = ([], sym (append-nil gs), All-nil (λ g. g ≡ ([], [])))

keys_front : (cs : List Clause) (keys : List (ℕ × ℕ)) (n : ℕ) → IsGrown (predicates cs) (map pred_of keys) → n ≡ length (predicates cs) → map pred_of (take n keys) ≡ predicates cs
keys_front cs keys n g e = sym (take-map pred_of n keys) ∙ ap (take n) g.1 ∙ take_at (predicates cs) g.0 n (sym e)

module _ (cs : List Clause) (keys : List (ℕ × ℕ)) (n : ℕ) (gs : List Group) (cells : List Cell) (ds : List Coded) (h : IsTable cs (map pred_of keys) n gs cells ds)
    (keys0 : List (ℕ × ℕ)) (ds0 : List Coded) (k : ℕ) (ke : keys0 ≡ take n keys) (de : ds0 ≡ take k ds) (e : k ≡ length cs)
    (hs : List Group) (more : List Cell) (a : AddsEmpty gs hs) (g : IsGrown cells more) where
  front : map pred_of keys0 ≡ predicates cs
  front = ap (map pred_of) ke ∙ keys_front cs keys n h.keys h.known

  trimmed : ds0 ≡ take (length cs) ds
  trimmed = de ∙ ap (λ m. take m ds) e

  code0 : AreCoded cells (predicates cs) ds0 cs
  code0 = subst (λ xs. AreCoded cells (predicates cs) xs cs) (sym trimmed) (coded_front cells (predicates cs) ds cs h.code).0

  length0 : length ds0 ≡ length cs
  length0 = ap length trimmed ∙ (coded_front cells (predicates cs) ds cs h.code).1

  -- no clause was added: what is behind the known parts is of no account
  pub exit : (qs : List Pred) (es : List Coded) → IsGrown (map pred_of keys0) qs → IsGrown ds0 es → IsTable cs qs n hs more es
  exit qs es p q = record {
    formed = h.formed;
    few = h.few;
    keys = subst (λ ps. IsGrown ps qs) front p;
    known = h.known;
    groups = groups_grow cs gs hs h.groups a;
    code = subst (λ xs. AreCoded more (predicates cs) xs cs) (sym q.1) (coded_extra more (predicates cs) ds0 q.0 cs (clauses_stay cells more (predicates cs) (predicates cs) g (grown_none (predicates cs)) ds0 cs code0));
  }

  module _ (c : Clause) (newkeys : List (ℕ × ℕ)) (at : ℕ) (f : Group) (ne : map pred_of newkeys ≡ firsts same_pred (map pred_of keys0) (mentioned c)) (i : IsNumber (map pred_of newkeys) at c.pred) (s : slice_get hs at ≡ Some f) where
    ps : List Pred
    ps = predicates (cs ++ c ∷ [])

    new_is : map pred_of newkeys ≡ predicates (cs ++ c ∷ [])
    new_is = ne ∙ ap (λ qs. firsts same_pred qs (mentioned c)) front ∙ sym (predicates-push cs c)

    grows : IsGrown (predicates cs) (predicates (cs ++ c ∷ []))
    grows = grown_firsts (predicates cs) (mentioned c) (predicates (cs ++ c ∷ [])) (predicates-push cs c)

    number : IsNumber (predicates (cs ++ c ∷ [])) at c.pred
    number = subst (λ qs. IsNumber qs at c.pred) new_is i

    -- the place of the clause
    pub place_is : length f.1 ≡ length (program cs (predicate_of c.pred))
    place_is = length-same cs c.pred f (before cs hs (predicates (cs ++ c ∷ [])) at c.pred f (groups_grow cs gs hs h.groups a) grows number s)

    -- the table with the clause
    pub added : (m : ℕ) (d : Coded) (new : Group) → m ≡ length newkeys → m ≤ length hs → IsCoded more (map pred_of newkeys) d c → new ≡ with_clause cs c f → IsClause c → length cs + 1 < 2 ^ 32
        → IsTable (cs ++ c ∷ []) (map pred_of newkeys) m (set hs at new) more (ds0 ++ d ∷ [])
    added m d new me l code w formed few =
        let count : m ≡ length (predicates (cs ++ c ∷ [])) = me ∙ sym (length-map newkeys pred_of) ∙ ap length new_is in
        record {
          formed = All-append IsClause cs (c ∷ []) h.formed (All-cons IsClause c [] formed (All-nil IsClause));
          few = (let t : length (cs ++ c ∷ []) ≡ length cs + 1 = length-append cs (c ∷ []) in omega (arith, t, few));
          keys = subst (IsGrown (predicates (cs ++ c ∷ []))) (sym new_is) (grown_none (predicates (cs ++ c ∷ [])));
          known = count;
          groups = subst (λ x. AreGroups (cs ++ c ∷ []) (set hs at x)) (sym w) (groups_push cs c hs at f (groups_grow cs gs hs h.groups a) grows number (omega (arith, l, count)) s);
          code = clauses_push more (predicates (cs ++ c ∷ [])) ds0 cs d c length0
              (clauses_stay cells more (predicates cs) (predicates (cs ++ c ∷ [])) g grows ds0 cs code0) (subst (λ qs. IsCoded more qs d c) new_is code);
        }

-- a group that is written back as it was changes nothing
pub same_set : (gs : List Group) (n : ℕ) (f new : Group) → f ≡ get_or gs n f → new ≡ f → set gs n new ≡ gs
same_set gs n f new e s = ap (set gs n) (s ∙ e) ∙ set-get_or gs n f

pub adds_one : (gs hs new : List Group) (g : Group) → AddsEmpty gs hs → new ≡ hs ++ g ∷ [] → g ≡ ([], []) → AddsEmpty gs new
adds_one gs hs new g a e z = (
  a.0 ++ g ∷ [],
  e ∙ ap (λ xs. xs ++ g ∷ []) a.1 ∙ append_assoc gs a.0 (g ∷ []),
  All-append (λ x. x ≡ ([], [])) a.0 (g ∷ []) a.2 (All-cons (λ x. x ≡ ([], [])) g [] z (All-nil (λ x. x ≡ ([], [])))),
)
