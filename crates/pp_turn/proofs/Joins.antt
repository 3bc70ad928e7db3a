-- Two seats become one.
use Rattle.std.proofs.Common.{◌≡◌, ◌≢◌, ℕ, ◌+◌, ◌<◌, List, [], ◌++◌, false, refl, sym, ap, ◌∙◌, subst, ⊎_elim, inl, set, arith, Option}
use mathlib.Core.Option.{some, none}
use lib.ListN.{get_elem?}
use Rattle.std.proofs.lemmas.List.{append_assoc}
use Rattle.atomic_table.specs.Table.{State, Me, step, keeps, Allows, Joins}
use Rattle.atomic_table.proofs.Lists.{at_set, set_else}
use Rattle.pp_turn.specs.declared.view.View.{View}
use Rattle.pp_turn.specs.Logs.{Each, Ordered, Outside, longer}
use Rattle.pp_turn.specs.Turns.{Held, Fits, Knows, Apart}
use Rattle.pp_turn.specs.Views.{at_rest, joined, spent}
use Rattle.pp_turn.specs.Steps.{compared}
use Rattle.pp_turn.proofs.Lists.{each_end, each_both, beginnings, cancel, longer_left, longer_right, set_swap, each_set, Pairs, pairs_set}
use Rattle.pp_turn.proofs.Keeps.{bit, no_way, waiting_set, spans_set, quiet_set, knows_part}

module _ {L B : Type 0} (bearer : L → ℕ) (b : B) where
  -- whoever knows two beginnings of the log knows the longer one
  knows_both : (h : List L) (v w u : View L B) → Knows bearer b h v → Knows bearer b h w → u.base ≡ v.base → u.seen ≡ longer v.seen w.seen
      → ((n : ℕ) → Outside v.number v.span n → Outside w.number w.span n → Outside u.number u.span n) → Knows bearer b h u
  knows_both h v w u k l sb ss out =
      let P : L → Type 0 = λ e. Outside v.number v.span (bearer e) in
      let Q : L → Type 0 = λ e. Outside w.number w.span (bearer e) in
      let R : L → Type 0 = λ e. Outside u.number u.span (bearer e) in
      ⊎_elim
      (λ (p : (more : List L) × (w.seen ≡ v.seen ++ more)).
      let tails : k.later ≡ p.0 ++ l.later = cancel v.seen k.later (p.0 ++ l.later) (sym k.begins ∙ (l.begins ∙ (ap (λ (x : List L). x ++ l.later) p.1 ∙ append_assoc v.seen p.0 l.later))) in
      let same : longer v.seen w.seen ≡ w.seen = ap (λ (x : List L). longer v.seen x) p.1 ∙ (longer_right v.seen p.0 ∙ sym p.1) in
      record {
        based = sb ∙ k.based;
        later = l.later;
        begins = l.begins ∙ ap (λ (x : List L). x ++ l.later) (sym (ss ∙ same));
        others = each_both P Q R l.later (λ e x y. out (bearer e) x y) (each_end P p.0 l.later (subst (λ (x : List L). Each P x) tails k.others)) l.others;
      })
      (λ (p : (more : List L) × (v.seen ≡ w.seen ++ more)).
      let tails : l.later ≡ p.0 ++ k.later = cancel w.seen l.later (p.0 ++ k.later) (sym l.begins ∙ (k.begins ∙ (ap (λ (x : List L). x ++ k.later) p.1 ∙ append_assoc w.seen p.0 k.later))) in
      let same : longer v.seen w.seen ≡ v.seen = ap (λ (x : List L). longer x w.seen) p.1 ∙ (longer_left w.seen p.0 ∙ sym p.1) in
      record {
        based = sb ∙ k.based;
        later = k.later;
        begins = k.begins ∙ ap (λ (x : List L). x ++ k.later) (sym (ss ∙ same));
        others = each_both P Q R k.later (λ e x y. out (bearer e) x y) k.others (each_end Q p.0 k.later (subst (λ (x : List L). Each Q x) tails l.others));
      })
      (beginnings v.seen w.seen k.later l.later (sym k.begins ∙ l.begins))

module _ {L B T : Type 0} (log : T → List L) (bearer : L → ℕ) (base : T → B) (seats : ℕ) where
  abbrev Rule : State (Option T) (View L B) → Type 0
  Rule = Held log bearer base seats

  abbrev M : Type 0
  M = Me (Option T) (View L B)

  pub joins : (id other : ℕ) (v w : View L B) → 0 < v.span → 0 < w.span → v.waits ≡ false → v.in_turn ≡ false → w.waits ≡ false → w.in_turn ≡ false → w.number ≡ v.number + v.span → Joins Rule id v other w (joined v w) spent
  joins id other v w sv sw idle out idle' out' next s r at ne at2 =
      let u : View L B = joined v w in
      let at' : get_elem? s.views other ≡ some w = sym (set_else s.views id other u ne) ∙ at2 in
      let vs : List (View L B) = set s.views other spent in
      let back : get_elem? vs id ≡ some v = set_else s.views other id spent (λ x. ne (sym x)) ∙ at in
      let order : set (set s.views id u) other spent ≡ set vs id u = set_swap s.views id other u spent (λ x. ne (sym x)) in
      let mine = r.each id v at in
      let theirs = r.each other w at' in
      let k = mine.knows sv in
      let l = theirs.knows sw in
      let inside = theirs.inside in
      let w1 = waiting_set s.views other w spent at' in
      let s1 = spans_set s.views other w spent at' in
      let w2 = waiting_set vs id v u back in
      let s2 = spans_set vs id v u back in
      let b0 : bit v.waits ≡ 0 = ap bit idle in
      let b1 : bit w.waits ≡ 0 = ap bit idle' in
      let c = r.count in
      let nn = r.numbers in
      let P : View L B → Type 0 = Fits bearer seats r.b r.now r.ticket r.serving in
      let ordered : Ordered v.seen w.seen = beginnings v.seen w.seen k.later l.later (sym k.begins ∙ l.begins) in
      let one : P u = record { knows = λ _. knows_both bearer r.b r.now v w u k l refl refl (λ n x y le. let p = x le in let q = y (omega arith) in omega arith); beside = ordered; inside = omega arith; some_number = λ h. no_way h; from = λ h. no_way h; below = λ h. no_way h; turn = λ h. no_way h } in
      let none : P spent = record { knows = λ h. absurd (omega arith); beside = inl ([], refl); inside = omega arith; some_number = λ h. no_way h; from = λ h. no_way h; below = λ h. no_way h; turn = λ h. no_way h } in
      let first : Pairs Apart vs = pairs_set Apart s.views other spent r.apart (λ j x _ e. (
        record { ticket = λ h. no_way h; span = λ le some. omega arith },
        record { ticket = λ _ h. no_way h; span = λ le some. absurd (omega arith) },
      )) in
      let both : Pairs Apart (set vs id u) = pairs_set Apart vs id u first (λ j x off e. ⊎_elim
      (λ (is : (j ≡ other) × (spent ≡ x)). subst (λ (z : View L B). Apart u z × Apart z u) is.1 (
        record { ticket = λ h. no_way h; span = λ le some. absurd (omega arith) },
        record { ticket = λ h. no_way h; span = λ le some. omega arith },
      ))
      (λ (is : (j ≢ other) × (get_elem? s.views j ≡ some x)).
      let a = r.apart id j v x (λ y. off (sym y)) at is.1 in let b = r.apart other j w x (λ y. is.0 (sym y)) at' is.1 in let c = r.apart j id x v off is.1 at in (
        record { ticket = λ h. no_way h; span = λ le some. let p = a.span le some in let q = b.span (omega arith) some in omega arith },
        record { ticket = λ _ h. no_way h; span = λ le some. c.span le sv },
      ))
      (at_set s.views other j spent x e)) in
      subst (λ (l : List (View L B)). Rule record { words = s.words; homes = s.homes; views = l }) (sym order) record {
        b = r.b;
        now = r.now;
        ticket = r.ticket;
        serving = r.serving;
        words = r.words;
        few = r.few;
        few_seats = r.few_seats;
        count = omega arith;
        numbers = omega arith;
        entries = r.entries;
        each = each_set P vs id u one (λ j x _ e. each_set P s.views other spent none (λ j x _ e. r.each j x e) j x e);
        apart = both;
        home = λ q. r.home (quiet_set s.views other w spent at' out' (quiet_set vs id v u back out q));
      }

  -- a seat that is not in its turn learns how its two logs stand
  pub compares : (slots id : ℕ) (me : M) → 0 < me.0.span → me.0.waits ≡ false → me.0.in_turn ≡ false → Allows Rule slots id me 0 (λ n. n) (compared (step slots 0 0 0 none) me)
  compares slots id me some_number idle out s r _ at _ =
      let w : View L B = at_rest me.0.base me.0.number me.0.span me.0.seen in
      let mine = r.each id me.0 at in
      let ws = waiting_set s.views id me.0 w at in
      let ss = spans_set s.views id me.0 w at in
      let b0 : bit me.0.waits ≡ 0 = ap bit idle in
      let c = r.count in
      let nn = r.numbers in (
        w,
        keeps,
        tt,
        record {
          b = r.b;
          now = r.now;
          ticket = r.ticket;
          serving = r.serving;
          words = rw r.words refl;
          few = r.few;
          few_seats = r.few_seats;
          count = omega arith;
          numbers = omega arith;
          entries = r.entries;
          each = each_set (Fits bearer seats r.b r.now r.ticket r.serving) s.views id w
              record { knows = λ h. knows_part bearer r.b r.now me.0 w (mine.knows h) refl refl (omega arith) (omega arith); beside = inl ([], refl); inside = mine.inside; some_number = λ h. no_way h; from = λ h. no_way h; below = λ h. no_way h; turn = λ h. no_way h }
              (λ j v _ e. r.each j v e);
          apart = pairs_set Apart s.views id w r.apart (λ j v other e.
              let a = r.apart id j me.0 v (λ x. other (sym x)) at e in let b = r.apart j id v me.0 other e at in (
                record { ticket = λ h. no_way h; span = a.span },
                record { ticket = λ _ h. no_way h; span = b.span },
              ));
          home = λ q. r.home (quiet_set s.views id me.0 w at out q);
        },
        (mine.beside, refl),
      )
