-- Each step on the lock keeps its rule.
use Rattle.std.proofs.Common.{◌≡◌, ◌≢◌, ℕ, zero, suc, ◌+◌, ◌%◌, ◌^◌, ◌<◌, ◌≤◌, List, [], ◌∷◌, ◌++◌, Bool, true, false, true≢false, cond, length, refl, sym, ap, ◌∙◌, subst, ⊎_elim, inl, set, get_or, arith, Option, Some}
use mathlib.Core.Logic.{dite}
use mathlib.Core.Option.{some, none, some-injective, some-ne-none}
use mathlib.Core.Option as maybe
use native.Mathlib.Decide.{ℕ_discrete}
use lib.ListN.{get_elem?}
use Rattle.std.proofs.Math.Nat.{mod-eq_of_lt}
use Rattle.std.proofs.lemmas.List.{append_assoc}
use Rattle.atomic_table.specs.Table.{State, Me, step, keeps, takes, gives, opening, Allows, Splits, Final, Seen}
use Rattle.atomic_table.proofs.Lists.{at_set, set_else, set_again, at_longer}
use Rattle.pp_turn.specs.declared.view.View.{View}
use Rattle.pp_turn.specs.Logs.{Each, Outside, Later, Adds}
use Rattle.pp_turn.specs.Turns.{Held, Fits, Knows, Apart}
use Rattle.pp_turn.specs.Views.{at_rest, holding, served, opened, lower, upper, spans, waiting}
use Rattle.pp_turn.specs.Steps.{drawn, looked, passed}
use Rattle.pp_turn.proofs.Lists.{each_append, each_map, each_both, each_end, none_at_all, append_nil, set_mine, one_value, each_set, Pairs, pairs_set, pairs_snoc, at_end}

abbrev pub bit : Bool → ℕ
bit b = cond b 1 0

bit_small : (b : Bool) (n : ℕ) → (b ≡ true → 0 < n) → bit b ≤ n
bit_small true n h = let k = h refl in omega arith
bit_small false n h = omega arith

pub no_way : {P : Type 0} → false ≡ true → P
no_way e = absurd (true≢false (sym e))

module _ {L B : Type 0} where
  spans_one : (vs : List (View L B)) (i : ℕ) (v : View L B) → get_elem? vs i ≡ some v → v.span ≤ spans vs
  spans_one [] i v a = absurd (some-ne-none v (sym a))
  spans_one (x ∷ xs) zero v a = let t : x.span ≡ v.span = ap (λ (y : View L B). y.span) (some-injective x v a) in omega arith
  spans_one (x ∷ xs) (suc i) v a = let r = spans_one xs i v a in omega arith

  pub waiting_set : (vs : List (View L B)) (id : ℕ) (v w : View L B) → get_elem? vs id ≡ some v → waiting (set vs id w) + bit v.waits ≡ waiting vs + bit w.waits
  waiting_set [] id v w e = absurd (some-ne-none v (sym e))
  waiting_set (x ∷ xs) zero v w e = let s : x ≡ v = some-injective x v e in let t : bit x.waits ≡ bit v.waits = ap (λ (y : View L B). bit y.waits) s in omega arith
  waiting_set (x ∷ xs) (suc id) v w e = let r = waiting_set xs id v w e in omega arith

  pub spans_set : (vs : List (View L B)) (id : ℕ) (v w : View L B) → get_elem? vs id ≡ some v → spans (set vs id w) + v.span ≡ spans vs + w.span
  spans_set [] id v w e = absurd (some-ne-none v (sym e))
  spans_set (x ∷ xs) zero v w e = let s : x ≡ v = some-injective x v e in let t : x.span ≡ v.span = ap (λ (y : View L B). y.span) s in omega arith
  spans_set (x ∷ xs) (suc id) v w e = let r = spans_set xs id v w e in omega arith

  waiting_snoc : (vs : List (View L B)) (w : View L B) → waiting (vs ++ w ∷ []) ≡ waiting vs + bit w.waits
  waiting_snoc [] w = omega arith
  waiting_snoc (x ∷ xs) w = let r = waiting_snoc xs w in omega arith

  spans_snoc : (vs : List (View L B)) (w : View L B) → spans (vs ++ w ∷ []) ≡ spans vs + w.span
  spans_snoc [] w = omega arith
  spans_snoc (x ∷ xs) w = let r = spans_snoc xs w in omega arith

  waiting_few : (vs : List (View L B)) → ((id : ℕ) (v : View L B) → get_elem? vs id ≡ some v → v.waits ≡ true → 0 < v.span) → waiting vs ≤ spans vs
  waiting_few [] h = omega arith
  waiting_few (x ∷ xs) h = let r = waiting_few xs (λ id. h (suc id)) in let b = bit_small x.waits x.span (h 0 x refl) in omega arith

  abbrev pub Quiet : List (View L B) → Type 0
  Quiet vs = (id : ℕ) (v : View L B) → get_elem? vs id ≡ some v → v.in_turn ≡ false

  pub quiet_set : (vs : List (View L B)) (id : ℕ) (v w : View L B) → get_elem? vs id ≡ some v → v.in_turn ≡ false → Quiet (set vs id w) → Quiet vs
  quiet_set vs id v w at still q j u e = dite (ℕ_discrete j id)
      (λ same. ap (λ (z : View L B). z.in_turn) (one_value vs j id u v same e at) ∙ still)
      (λ other. q j u (set_else vs id j w other ∙ e))

  module _ (bearer : L → ℕ) (b : B) where
    -- a part of a span knows as much as the whole
    pub knows_part : (h : List L) (v w : View L B) → Knows bearer b h v → w.base ≡ v.base → w.seen ≡ v.seen → v.number ≤ w.number → w.number + w.span ≤ v.number + v.span → Knows bearer b h w
    knows_part h v w k sb ss lo hi = record {
      based = sb ∙ k.based;
      later = k.later;
      begins = k.begins ∙ ap (λ (l : List L). l ++ k.later) (sym ss);
      others = each_map (λ e. Outside v.number v.span (bearer e)) (λ e. Outside w.number w.span (bearer e)) k.later (λ e out le. let o = out (omega arith) in omega arith) k.others;
    }

    -- whoever saw the whole log
    pub knows_all : (h : List L) (v : View L B) → v.base ≡ Some b → v.seen ≡ h → Knows bearer b h v
    knows_all h v sb ss = record { based = sb; later = []; begins = sym (append_nil v.seen ∙ ss); others = tt }

    -- one more entry, of a number outside the span
    pub knows_more : (h : List L) (e : L) (v : View L B) → Knows bearer b h v → Outside v.number v.span (bearer e) → Knows bearer b (h ++ e ∷ []) v
    knows_more h e v k out = record {
      based = k.based;
      later = k.later ++ e ∷ [];
      begins = ap (λ (l : List L). l ++ e ∷ []) k.begins ∙ append_assoc v.seen k.later (e ∷ []);
      others = each_append (λ e. Outside v.number v.span (bearer e)) k.later (e ∷ []) k.others (out, tt);
    }

  module _ {T : Type 0} (log : T → List L) (bearer : L → ℕ) (base : T → B) (seats : ℕ) where
    abbrev pub Rule : State (Option T) (View L B) → Type 0
    Rule = Held log bearer base seats

    abbrev pub M : Type 0
    M = Me (Option T) (View L B)

    pub opens : (x : T) → 0 < seats → seats ≤ 65 → log x ≡ [] → Rule (opening (0 ∷ 0 ∷ []) (Some x ∷ []) (opened (base x) seats))
    opens x some_seat few empty = let only : (j : ℕ) (v : View L B) → get_elem? (opened (base x) seats ∷ []) j ≡ some v → opened (base x) seats ≡ v = λ j v e. one j v e in record {
      b = base x;
      now = [];
      ticket = 0;
      serving = 0;
      words = refl;
      few = omega arith;
      few_seats = few;
      count = refl;
      numbers = omega arith;
      entries = tt;
      each = λ j v e. subst (Fits bearer seats (base x) [] 0 0) (only j v e) record {
        knows = λ _. knows_all bearer (base x) [] (opened (base x) seats) refl refl;
        beside = inl ([], refl);
        inside = omega arith;
        some_number = λ h. no_way h;
        from = λ h. no_way h;
        below = λ h. no_way h;
        turn = λ h. no_way h;
      };
      apart = λ i j v w ne ei ej. absurd (ne (place i v ei ∙ sym (place j w ej)));
      home = λ q. (x, refl, refl, empty);
    }
      where
        one : (j : ℕ) (v : View L B) → get_elem? (opened (base x) seats ∷ []) j ≡ some v → opened (base x) seats ≡ v
        one zero v e = some-injective _ v e
        one (suc j) v e = absurd (some-ne-none v (sym e))

        place : (j : ℕ) (v : View L B) → get_elem? (opened (base x) seats ∷ []) j ≡ some v → j ≡ 0
        place zero v e = refl
        place (suc j) v e = absurd (some-ne-none v (sym e))

    small : (s : State (Option T) (View L B)) (r : Rule s) → r.ticket + 1 < 2 ^ 64
    small s r = let w = waiting_few s.views (λ id v e. (r.each id v e).some_number) in let n = r.numbers in let m = r.few_seats in let c = r.count in let f = r.few in omega arith

    pub draws : (slots id : ℕ) (me : M) → 0 < me.0.span → me.0.waits ≡ false → me.0.in_turn ≡ false → Allows Rule slots id me 0 (λ n. (n + 1) % 2 ^ 64) (drawn (step slots 0 1 0 none) me)
    draws slots id me some_number idle out s r _ at _ =
        let w : View L B = holding me.0 r.ticket in
        let mine = r.each id me.0 at in
        let c = r.count in
        let sm = small s r in
        let ws = waiting_set s.views id me.0 w at in
        let ss = spans_set s.views id me.0 w at in
        let b0 : bit me.0.waits ≡ 0 = ap bit idle in
        let nn = r.numbers in
        let here : get_or s.words 0 0 ≡ r.ticket = ap (λ l. get_or l 0 0) r.words in (
          w,
          keeps,
          tt,
          record {
            b = r.b;
            now = r.now;
            ticket = r.ticket + 1;
            serving = r.serving;
            words = rw r.words (ap (λ n. n ∷ r.serving ∷ []) (mod-eq_of_lt sm));
            few = r.few;
            few_seats = r.few_seats;
            count = omega arith;
            numbers = omega arith;
            entries = r.entries;
            each = each_set (Fits bearer seats r.b r.now (r.ticket + 1) r.serving) s.views id w
                record {
                  knows = λ h. knows_part bearer r.b r.now me.0 w (mine.knows h) refl refl (omega arith) (omega arith);
                  beside = inl ([], refl);
                  inside = mine.inside;
                  some_number = λ _. some_number;
                  from = λ _. omega arith;
                  below = λ _. omega arith;
                  turn = λ h. no_way h;
                }
                (λ j v _ e. let f = r.each j v e in record { knows = f.knows; beside = f.beside; inside = f.inside; some_number = f.some_number; from = f.from; below = λ h. let l = f.below h in omega arith; turn = f.turn });
            apart = pairs_set Apart s.views id w r.apart (λ j v other e.
                let a = r.apart id j me.0 v (λ x. other (sym x)) at e in let b = r.apart j id v me.0 other e at in let f = r.each j v e in (
                  record { ticket = λ _ vi same. let l = f.below vi in omega arith; span = a.span },
                  record { ticket = λ vi _ same. let l = f.below vi in omega arith; span = b.span },
                ));
            home = λ q. r.home (quiet_set s.views id me.0 w at out q);
          },
          (ap (λ n. holding me.0 n) (sym here), refl),
        )

    no_other : (s : State (Option T) (View L B)) (r : Rule s) (id : ℕ) (v : View L B) → get_elem? s.views id ≡ some v → v.waits ≡ true → v.ticket ≡ r.serving → v.in_turn ≡ false → (j : ℕ) (u : View L B) → get_elem? s.views j ≡ some u → (b : Bool) → u.in_turn ≡ b → b ≡ false
    no_other s r id v at waits mine out j u e false is = refl
    no_other s r id v at waits mine out j u e true is = dite (ℕ_discrete j id)
        (λ same. absurd (true≢false (sym is ∙ (ap (λ (z : View L B). z.in_turn) (one_value s.views j id u v same e at) ∙ out))))
        (λ other. let t = (r.each j u e).turn is in absurd ((r.apart j id u v other e at).ticket t.0 waits (t.1 ∙ sym mine)))

    first_of : (homes : List (maybe.Option (Option T))) (x : T) → homes ≡ some (Some x) ∷ [] → get_elem? homes 0 ≡ some (some (Some x))
    first_of homes x e = ap (λ l. get_elem? l 0) e

    -- the entries after those that were seen are of others than the seat
    later_of : (h : List L) (b : B) (v : View L B) → 0 < v.span → Knows bearer b h v → Later bearer v.number v.seen h
    later_of h b v some_number k = (k.later, k.begins, each_map (λ e. Outside v.number v.span (bearer e)) (λ e. bearer e ≢ v.number) k.later (λ e out same. let o = out (omega arith) in absurd (omega arith)) k.others)

    pub looks : (slots id : ℕ) (me : M) (ticket : ℕ) → ticket < 2 ^ 63 → me.0.waits ≡ true → me.0.in_turn ≡ false → me.0.ticket ≡ ticket → Allows Rule slots id me 1 (λ n. n) (looked log bearer base (step slots 1 0 0 none) me)
    looks slots id me ticket small waits out own s r _ at _ =
        let here : get_or s.words 1 0 ≡ r.serving = ap (λ l. get_or l 1 0) r.words in
        let back : set s.words 1 (get_or s.words 1 0) ≡ r.ticket ∷ r.serving ∷ [] = rw r.words refl in
        dite (ℕ_discrete r.serving me.0.ticket)
        (λ hit.
        let home = r.home (λ j u e. no_other s r id me.0 at waits (sym hit) out j u e u.in_turn refl) in
        let x : T = home.0 in
        let is : log x ≡ r.now = home.3 in
        let w : View L B = served me.0 me.0.ticket (log x) in
        let mine = r.each id me.0 at in
        let some_number = mine.some_number waits in
        let k = mine.knows some_number in
        let ws = waiting_set s.views id me.0 w at in
        let ss = spans_set s.views id me.0 w at in
        let b1 : bit me.0.waits ≡ 1 = ap bit waits in
        let c = r.count in
        let nn = r.numbers in (
          w,
          takes 0 (Some x),
          first_of s.homes x home.1,
          record {
            b = r.b;
            now = r.now;
            ticket = r.ticket;
            serving = r.serving;
            words = back;
            few = r.few;
            few_seats = r.few_seats;
            count = omega arith;
            numbers = omega arith;
            entries = r.entries;
            each = each_set (Fits bearer seats r.b r.now r.ticket r.serving) s.views id w
                record {
                  knows = λ h. knows_part bearer r.b r.now me.0 w (mine.knows h) refl refl (omega arith) (omega arith);
                  beside = inl ([], refl);
                  inside = mine.inside;
                  some_number = λ _. some_number;
                  from = λ _. mine.from waits;
                  below = λ _. mine.below waits;
                  turn = λ _. (refl, sym hit, omega arith, is);
                }
                (λ j v _ e. r.each j v e);
            apart = pairs_set Apart s.views id w r.apart (λ j v other e.
                let a = r.apart id j me.0 v (λ x. other (sym x)) at e in let b = r.apart j id v me.0 other e at in (
                  record { ticket = λ _ vi. a.ticket waits vi; span = a.span },
                  record { ticket = λ vi _. b.ticket vi waits; span = b.span },
                ));
            home = λ q. absurd (true≢false (q id w (set_mine s.views id me.0 w at)));
          },
          (
            (λ _. (x, ap Some home.2 ∙ sym k.based, subst (λ (l : List L). Later bearer me.0.number me.0.seen l) (sym is) (later_of r.now r.b me.0 some_number k), refl, refl)),
            (λ miss. absurd (miss (here ∙ hit))),
          ),
        ))
        (λ miss. (
          me.0,
          keeps,
          tt,
          subst (λ (vs : List (View L B)). Rule record { words = set s.words 1 (get_or s.words 1 0); homes = s.homes; views = vs }) (sym (set_again s.views id me.0 at))
              record { b = r.b; now = r.now; ticket = r.ticket; serving = r.serving; words = back; few = r.few; count = r.count; few_seats = r.few_seats; numbers = r.numbers; entries = r.entries; each = r.each; apart = r.apart; home = r.home },
          ((λ h. absurd (miss (sym here ∙ h))), (λ _. refl)),
        ))

    one_home : (homes : List (maybe.Option (Option T))) (y : maybe.Option (Option T)) → length homes ≡ 1 → set homes 0 y ≡ y ∷ []
    one_home [] y e = absurd (omega arith)
    one_home (h ∷ []) y e = refl
    one_home (h ∷ (h2 ∷ hs)) y e = absurd (omega arith)

    -- what others know after the seat added nothing, or an entry of its own
    grown : (b : B) (h after : List L) (number : ℕ) (v : View L B) → Outside v.number v.span number → Adds bearer number h after → Knows bearer b h v → Knows bearer b after v
    grown b h after number v out adds k = ⊎_elim
        (λ (same : after ≡ h). subst (λ (l : List L). Knows bearer b l v) (sym same) k)
        (λ (one : (e : L) × (after ≡ h ++ e ∷ []) × (bearer e ≡ number)). subst (λ (l : List L). Knows bearer b l v) (sym one.1) (knows_more bearer b h one.0 v k (subst (λ (n : ℕ). Outside v.number v.span n) (sym one.2) out)))
        adds

    grown_entries : (h after : List L) (number : ℕ) → number < seats → Adds bearer number h after → Each (λ e. bearer e < seats) h → Each (λ e. bearer e < seats) after
    grown_entries h after number small adds all = ⊎_elim
        (λ (same : after ≡ h). subst (λ (l : List L). Each (λ e. bearer e < seats) l) (sym same) all)
        (λ (one : (e : L) × (after ≡ h ++ e ∷ []) × (bearer e ≡ number)). let m = one.2 in let n : bearer one.0 < seats = omega arith in subst (λ (l : List L). Each (λ e. bearer e < seats) l) (sym one.1) (each_append (λ e. bearer e < seats) h (one.0 ∷ []) all (n, tt)))
        adds

    pub passes : (slots id : ℕ) (me : M) (x : T) → slots ≡ 1 → me.0.waits ≡ true → me.0.in_turn ≡ true → me.1 ≡ (0, Some x) ∷ [] → Some (base x) ≡ me.0.base → Adds bearer me.0.number me.0.kept (log x) → Allows Rule slots id me 1 (λ n. (n + 1) % 2 ^ 64) (passed log (step slots 1 1 0 none) me)
    passes slots id me x one waits in_turn held kept adds s r len at _ =
        let w : View L B = at_rest me.0.base me.0.number me.0.span (log x) in
        let mine = r.each id me.0 at in
        let t = mine.turn in_turn in
        let own : me.0.ticket ≡ r.serving = t.1 in
        let small : me.0.ticket < 2 ^ 63 = t.2 in
        let adds' : Adds bearer me.0.number r.now (log x) = subst (λ (l : List L). Adds bearer me.0.number l (log x)) t.3 adds in
        let some_number : 0 < me.0.span = mine.some_number waits in
        let k = mine.knows some_number in
        let inside = mine.inside in
        let ws = waiting_set s.views id me.0 w at in
        let ss = spans_set s.views id me.0 w at in
        let b1 : bit me.0.waits ≡ 1 = ap bit waits in
        let c = r.count in
        let nn = r.numbers in
        let less : r.serving + 1 < 2 ^ 64 = omega arith in
        let based : Some (base x) ≡ Some r.b = kept ∙ k.based in (
          w,
          gives,
          tt,
          record {
            b = r.b;
            now = log x;
            ticket = r.ticket;
            serving = r.serving + 1;
            words = rw r.words (ap (λ n. r.ticket ∷ n ∷ []) (mod-eq_of_lt less));
            few = omega arith;
            few_seats = r.few_seats;
            count = omega arith;
            numbers = omega arith;
            entries = grown_entries r.now (log x) me.0.number (omega arith) adds' r.entries;
            each = each_set (Fits bearer seats r.b (log x) r.ticket (r.serving + 1)) s.views id w
                record {
                  knows = λ _. knows_all bearer r.b (log x) w k.based refl;
                  beside = inl ([], refl);
                  inside = inside;
                  some_number = λ h. no_way h;
                  from = λ h. no_way h;
                  below = λ h. no_way h;
                  turn = λ h. no_way h;
                }
                (λ j v other e. let f = r.each j v e in let a = r.apart j id v me.0 other e at in record {
                  knows = λ h. grown r.b r.now (log x) me.0.number v (λ le. a.span le some_number) adds' (f.knows h);
                  beside = f.beside;
                  inside = f.inside;
                  some_number = f.some_number;
                  from = λ h. let l = f.from h in let ne = a.ticket h waits in let ne' : v.ticket ≢ r.serving = (λ q. ne (q ∙ sym own)) in omega arith;
                  below = f.below;
                  turn = λ h. let u = f.turn h in absurd (a.ticket u.0 waits (u.1 ∙ sym own));
                });
            apart = pairs_set Apart s.views id w r.apart (λ j v other e.
                let a = r.apart id j me.0 v (λ x. other (sym x)) at e in let b = r.apart j id v me.0 other e at in (
                  record { ticket = λ h. no_way h; span = a.span },
                  record { ticket = λ _ h. no_way h; span = b.span },
                ));
            home = λ _. (x, rw held (one_home s.homes (some (Some x)) (len ∙ one)), (cc), refl);
          },
          (x, held, refl, rw held refl),
        )

    pub splits : (id : ℕ) (v : View L B) → 1 < v.span → v.waits ≡ false → v.in_turn ≡ false → Splits Rule id v (lower v) (upper v)
    splits id v two idle out s r at =
        let vs : List (View L B) = set s.views id (lower v) in
        let mine = r.each id v at in
        let k = mine.knows (omega arith) in
        let inside = mine.inside in
        let ws = waiting_set s.views id v (lower v) at in
        let ss = spans_set s.views id v (lower v) at in
        let wn = waiting_snoc vs (upper v) in
        let sn = spans_snoc vs (upper v) in
        let b0 : bit v.waits ≡ 0 = ap bit idle in
        let c = r.count in
        let nn = r.numbers in
        let P : View L B → Type 0 = Fits bearer seats r.b r.now r.ticket r.serving in
        let low : P (lower v) = record { knows = λ _. knows_part bearer r.b r.now v (lower v) k refl refl (omega arith) (omega arith); beside = inl ([], refl); inside = omega arith; some_number = λ h. no_way h; from = λ h. no_way h; below = λ h. no_way h; turn = λ h. no_way h } in
        let high : P (upper v) = record { knows = λ _. knows_part bearer r.b r.now v (upper v) k refl refl (omega arith) (omega arith); beside = inl ([], refl); inside = omega arith; some_number = λ h. no_way h; from = λ h. no_way h; below = λ h. no_way h; turn = λ h. no_way h } in
        let all : (j : ℕ) (u : View L B) → get_elem? vs j ≡ some u → P u = each_set P s.views id (lower v) low (λ j u _ e. r.each j u e) in
        let first : Pairs Apart vs = pairs_set Apart s.views id (lower v) r.apart (λ j u other e.
        let a = r.apart id j v u (λ x. other (sym x)) at e in let b = r.apart j id u v other e at in (
          record { ticket = λ h. no_way h; span = λ le some. let p = a.span le some in omega arith },
          record { ticket = λ _ h. no_way h; span = λ le some. b.span le (omega arith) },
        )) in
        record {
          b = r.b;
          now = r.now;
          ticket = r.ticket;
          serving = r.serving;
          words = r.words;
          few = r.few;
          few_seats = r.few_seats;
          count = omega arith;
          numbers = omega arith;
          entries = r.entries;
          each = λ j u e. ⊎_elim (all j u) (λ (is : (j ≡ length vs) × (upper v ≡ u)). subst P is.1 high) (at_end vs (upper v) u j e);
          apart = pairs_snoc Apart vs (upper v) first (λ j u e. ⊎_elim
              (λ (is : (j ≡ id) × (lower v ≡ u)). subst (λ (z : View L B). Apart (upper v) z × Apart z (upper v)) is.1 (
                record { ticket = λ h. no_way h; span = λ le some. absurd (omega arith) },
                record { ticket = λ h. no_way h; span = λ le some. omega arith },
              ))
              (λ (is : (j ≢ id) × (get_elem? s.views j ≡ some u)).
              let a = r.apart id j v u (λ x. is.0 (sym x)) at is.1 in let b = r.apart j id u v is.0 is.1 at in (
                record { ticket = λ h. no_way h; span = λ le some. let p = a.span (omega arith) some in omega arith },
                record { ticket = λ _ h. no_way h; span = λ le some. above u.number u.span v.number v.span two (λ le. a.span le) (λ le. b.span le (omega arith)) le },
              ))
              (at_set s.views id j (lower v) u e));
          home = λ q. r.home (quiet_set s.views id v (lower v) at out (λ j u e. q j u (at_longer vs (upper v ∷ []) j u e)));
        }
      where
        above : (n m number span : ℕ) → 1 < span → (number ≤ n → 0 < m → number + span ≤ n) → (n ≤ number → n + m ≤ number) → n ≤ number + 1 → n + m ≤ number + 1
        above n zero number span two a b le = omega arith
        above n (suc m) number span two a b le = dite (ℕ_discrete n (number + 1))
            (λ same. let p = a (omega arith) (omega arith) in absurd (omega arith))
            (λ other. let p = b (omega arith) in omega arith)

    spans_two : (vs : List (View L B)) (i j : ℕ) (v w : View L B) → i ≢ j → get_elem? vs i ≡ some v → get_elem? vs j ≡ some w → v.span + w.span ≤ spans vs
    spans_two [] i j v w ne a b = absurd (some-ne-none v (sym a))
    spans_two (x ∷ xs) zero zero v w ne a b = absurd (ne refl)
    spans_two (x ∷ xs) zero (suc j) v w ne a b = let t : x.span ≡ v.span = ap (λ (y : View L B). y.span) (some-injective x v a) in let r = spans_one xs j w b in omega arith
    spans_two (x ∷ xs) (suc i) zero v w ne a b = let t : x.span ≡ w.span = ap (λ (y : View L B). y.span) (some-injective x w b) in let r = spans_one xs i v a in omega arith
    spans_two (x ∷ xs) (suc i) (suc j) v w ne a b = let r = spans_two xs i j v w (λ e. ne (ap suc e)) a b in omega arith

    -- a view with an empty span is not in its turn
    still : (s : State (Option T) (View L B)) (r : Rule s) (j : ℕ) (u : View L B) → get_elem? s.views j ≡ some u → u.span ≡ 0 → (b : Bool) → u.in_turn ≡ b → b ≡ false
    still s r j u e empty false is = refl
    still s r j u e empty true is = let f = r.each j u e in let n = f.some_number (f.turn is).0 in absurd (omega arith)

    pub closes : (id : ℕ) (v : View L B) (ws : List ℕ) (xs : List (Option T)) → v.span ≡ seats → 0 < v.span → v.in_turn ≡ false → Final (Seen Rule id v) ws xs → (x : T) × (get_elem? xs 0 ≡ some (Some x)) × (Some (base x) ≡ v.base) × (log x ≡ v.seen)
    closes id v ws xs all some_number out f =
        let s = f.0 in let r = f.1.0 in let at = f.1.1 in
        let quiet : (j : ℕ) (u : View L B) → get_elem? s.views j ≡ some u → u.in_turn ≡ false = (λ j u e. dite (ℕ_discrete j id)
        (λ same. ap (λ (z : View L B). z.in_turn) (one_value s.views j id u v same e at) ∙ out)
        (λ other. let t = spans_two s.views j id u v other e at in let n = r.numbers in still s r j u e (omega arith) u.in_turn refl)) in
        let home = r.home quiet in
        let mine = r.each id v at in
        let inside = mine.inside in
        let k = mine.knows some_number in
        let P : L → Type 0 = λ e. bearer e < seats in
        let Q : L → Type 0 = λ e. Outside v.number v.span (bearer e) in
        let small : Each P k.later = each_end P v.seen k.later (subst (λ (l : List L). Each P l) k.begins r.entries) in
        let none : k.later ≡ [] = none_at_all (λ e. P e × Q e) k.later (λ e p. let a = p.0 in let o = p.1 (omega arith) in absurd (omega arith)) (each_both P Q (λ e. P e × Q e) k.later (λ e x y. (x, y)) small k.others) in
        (home.0, f.4 0 (Some home.0) (first_of s.homes home.0 home.1), ap Some home.2 ∙ sym k.based, home.3 ∙ (k.begins ∙ (ap (λ (l : List L). v.seen ++ l) none ∙ append_nil v.seen)))
