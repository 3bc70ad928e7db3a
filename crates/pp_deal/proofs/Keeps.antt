-- Each step on a deque keeps its rule.
use Rattle.std.proofs.Common.{◌≡◌, ◌≢◌, ◌⊎◌, ℕ, suc, zero, ◌+◌, ◌-◌, min, List, [], ◌∷◌, ◌++◌, Bool, true, false, true≢false, cond, refl, sym, ap, ◌∙◌, subst, ⊎_elim, set, arith, append_assoc, inl, flat_map}
use mathlib.Core.Option.{some, some-injective, some-ne-none}
use lib.ListN.{get_elem?}
use Rattle.crossbeam_deque.specs.Tasks.{Pushes, Takes, Forks, Merges, Learns, Finds, FindsFew}
use Rattle.std.proofs.lemmas.Bool.{both_ways, cases_Bool, false≢true}
use Rattle.crossbeam_deque.proofs.Lists.{at_snoc, set_here}
use Rattle.crossbeam_deque.proofs.Phases.{at_lt}
use Rattle.pp_deal.specs.declared.tally.Tally.{Tally}
use Rattle.pp_deal.specs.Dealt.{tally, idle, weigh, outs, Fits, Dealt, AsOften, AreAccounted, AllGone}
use Rattle.pp_deal.specs.Steps.{HeldNone, offers, takes, has_taken, takes_left, left_of, LeavesNone, gives, given, takes_in, Accounts}
use Rattle.pp_deal.proofs.Weights.{weigh_set, weigh_append, weigh_snoc, weigh_flat, all_set, none_weighs, only_one, rest_is}

abbrev bit : Bool → ℕ
bit b = cond b 1 0

is_back : (b : Bool) → bit b ≡ 0 → b ≡ false
is_back true z = absurd (omega arith)
is_back false z = refl

module _ {T : Type 0} where
  abbrev out : Tally T → ℕ
  out v = bit v.is_out

  abbrev weight_of : (T → ℕ) → Tally T → ℕ
  weight_of weight v = weigh weight v.taken

  pub begins : Dealt {T = T} [] (tally true false 0 [] [] ∷ [])
  begins = record { hand = 0; offered = []; gone = []; all = refl; counts = λ h. refl; each = λ j v e. one j v e }
    where
      one : (j : ℕ) (v : Tally T) → get_elem? (tally true false 0 [] [] ∷ []) j ≡ some v → Fits 0 [] (tally true false 0 [] [] ∷ []) j v
      one zero v e = subst (Fits 0 [] (tally true false 0 [] [] ∷ []) 0) (some-injective _ v e) record { leads = λ _. (refl, refl, refl); rests = λ f. absurd (true≢false f) }
      one (suc j) v e = absurd (some-ne-none v (sym e))

  pub offers_keep : (place : ℕ) (v : Tally T) (xs : List T) → v.leads ≡ true → Pushes Dealt place v xs (offers v xs)
  offers_keep place v xs leads items views h at =
      let w : Tally T = tally v.leads v.is_out v.peeks (v.offered ++ xs) v.taken in
      let mine = (h.each place v at).leads leads in
      let vs : List (Tally T) = set views place w in
      let same : outs vs ≡ outs views = (let t = weigh_set out views place v w at in omega arith) in (
        w,
        record {
          hand = h.hand;
          offered = h.offered ++ xs;
          gone = h.gone;
          all = ap (λ l. l ++ xs) h.all ∙ append_assoc h.gone items xs;
          counts = λ k. let t = weigh_set (weight_of k) views place v w at in let c = h.counts k in omega arith;
          each = all_set (Fits h.hand (h.offered ++ xs) vs) views place w
              record { leads = λ _. (mine.0, ap (λ l. l ++ xs) mine.1, same ∙ mine.2); rests = λ f. absurd (both_ways v.leads f leads) }
              (λ j u other e. record { leads = λ b. absurd (other (((h.each j u e).leads b).0 ∙ sym mine.0)); rests = (h.each j u e).rests });
        },
        refl,
      )

  -- the state after the first items are taken
  taken_keeps : (place : ℕ) (v : Tally T) (xs items : List T) (views : List (Tally T)) → (v.leads ≡ true) ⊎ (v.is_out ≡ true) → Dealt (xs ++ items) views → get_elem? views place ≡ some v → Dealt items (set views place (has_taken v xs))
  taken_keeps place v xs items views may h at =
      let w : Tally T = has_taken v xs in
      let vs : List (Tally T) = set views place w in
      let same : outs vs ≡ outs views = (let t = weigh_set out views place v w at in omega arith) in record {
        hand = h.hand;
        offered = h.offered;
        gone = h.gone ++ xs;
        all = h.all ∙ sym (append_assoc h.gone xs items);
        counts = λ k. let t = weigh_set (weight_of k) views place v w at in let c = h.counts k in omega (arith, weigh_append k v.taken xs, weigh_append k h.gone xs);
        each = all_set (Fits h.hand h.offered vs) views place w
            record {
              leads = λ b. let m = (h.each place v at).leads b in (m.0, m.1, same ∙ m.2);
              rests = λ f g. ⊎_elim (λ b. absurd (both_ways v.leads f b)) (λ l. absurd (both_ways v.is_out g l)) may;
            }
            (λ j u other e. let f = h.each j u e in record { leads = λ b. let m = f.leads b in (m.0, m.1, same ∙ m.2); rests = f.rests });
      }

  pub takes_keep : (place : ℕ) (v : Tally T) → (v.leads ≡ true) ⊎ (v.is_out ≡ true) → Takes Dealt place v 1 (takes v)
  takes_keep place v may xs items views _ _ h at = (has_taken v xs, taken_keeps place v xs items views may h at, (refl, (items, (views, place, h, at))))

  pub finds : (place : ℕ) (v : Tally T) → Finds Dealt place v (HeldNone v)
  finds place v views h at = (views, place, h, at)

  pub finds_few : (flavor place : ℕ) (v : Tally T) → flavor ≡ 0 → FindsFew Dealt (min flavor 1) place v (HeldNone v)
  finds_few flavor place v fifo [] views few h at = (views, place, h, at)
  finds_few flavor place v fifo (x ∷ xs) views few h at = let z : min flavor 1 ≡ 0 = ap (λ n. min n 1) fifo in absurd (omega arith)

  pub forks : (place : ℕ) (v : Tally T) → v.leads ≡ true → Forks Dealt place v (gives v) (given v)
  forks place v leads items views h at =
      let vs : List (Tally T) = set views place (gives v) in
      let mine = (h.each place v at).leads leads in
      let tl = weigh_set out views place v (gives v) at in
      let sl = weigh_snoc out vs (given v) in
      let more : outs (vs ++ given v ∷ []) ≡ v.peeks + 1 = (let m = mine.2 in omega arith) in
      let P : ℕ → Tally T → Type 0 = Fits h.hand h.offered (vs ++ given v ∷ []) in
      let old : (j : ℕ) (u : Tally T) → get_elem? vs j ≡ some u → P j u = all_set P views place (gives v)
      record { leads = λ _. (mine.0, mine.1, more); rests = λ f. absurd (both_ways v.leads f leads) }
      (λ j u other e. record { leads = λ b. absurd (other (((h.each j u e).leads b).0 ∙ sym mine.0)); rests = (h.each j u e).rests }) in
      record {
        hand = h.hand;
        offered = h.offered;
        gone = h.gone;
        all = h.all;
        counts = λ k. let t = weigh_set (weight_of k) views place v (gives v) at in let s = weigh_snoc (weight_of k) vs (given v) in let c = h.counts k in omega arith;
        each = λ j u e. ⊎_elim (old j u) (λ (is : given v ≡ u). subst (P j) is record { leads = λ b. absurd (false≢true b); rests = λ _ g. absurd (true≢false g) }) (at_snoc vs (given v) u j e);
      }

  pub merges : (place : ℕ) (v : Tally T) (other : ℕ) (w : Tally T) → v.leads ≡ true → w.leads ≡ false → w.is_out ≡ true → Merges Dealt place v other w (takes_in v w) idle
  merges place v other w leads plain is_out items views h at two at' =
      let both : Tally T = takes_in v w in
      let vs : List (Tally T) = set views place both in
      let vs2 : List (Tally T) = set vs other idle in
      let mine = (h.each place v at).leads leads in
      let t1 = weigh_set out views place v both at in
      let t2 = weigh_set out vs other w idle at' in
      let one : out w ≡ 1 = ap bit is_out in
      let fewer : outs vs2 ≡ v.peeks - 1 = (let m = mine.2 in omega arith) in
      let P : ℕ → Tally T → Type 0 = Fits h.hand h.offered vs2 in record {
        hand = h.hand;
        offered = h.offered;
        gone = h.gone;
        all = h.all;
        counts = λ k.
            let a = weigh_set (weight_of k) views place v both at in
            let b = weigh_set (weight_of k) vs other w idle at' in
            let c = h.counts k in
            omega (arith, weigh_append k v.taken w.taken);
        each = all_set P vs other idle record { leads = λ b. absurd (false≢true b); rests = λ _ _. refl }
            (λ j u apart e. all_set (λ i x. i ≢ other → P i x) views place both
            (λ _. record { leads = λ _. (mine.0, mine.1, fewer); rests = λ f. absurd (both_ways v.leads f leads) })
            (λ i x o e' _. record { leads = λ b. absurd (o (((h.each i x e').leads b).0 ∙ sym mine.0)); rests = (h.each i x e').rests })
            j u e apart);
      }

  -- where no peek is out, the hand's view accounts for all
  pub learns : (place : ℕ) (v : Tally T) → v.leads ≡ true → v.peeks ≡ 0 → Learns Dealt place v (Accounts v)
  learns place v leads none items views h at =
      let mine = (h.each place v at).leads leads in
      let quiet = none_weighs out views (mine.2 ∙ none) in
      let nothing : (j : ℕ) (u : Tally T) → j ≢ place → get_elem? views j ≡ some u → u.taken ≡ [] = (λ j u o e. ⊎_elim
      (λ b. absurd (o (((h.each j u e).leads b).0 ∙ sym mine.0)))
      (λ b. (h.each j u e).rests b (is_back u.is_out (quiet j u e)))
      (cases_Bool u.leads)) in (
        h.gone,
        mine.1 ∙ h.all,
        λ k. sym (only_one (weight_of k) views place v at (λ j u o e. ap (weigh k) (nothing j u o e))) ∙ h.counts k,
      )

  left_is : (place : ℕ) (v : Tally T) → v.leads ≡ true → v.peeks ≡ 0 → (items : List T) (views : List (Tally T)) → Dealt items views → get_elem? views place ≡ some v → left_of v ≡ items
  left_is place v leads none items views h at = let a = learns place v leads none items views h at in rest_is v.offered v.taken a.0 items a.1 a.2

  pub takes_left_keep : (place : ℕ) (v : Tally T) → v.leads ≡ true → v.peeks ≡ 0 → Takes Dealt place v 1 (takes_left v)
  takes_left_keep place v leads none xs items views _ _ h at =
      let w : Tally T = has_taken v xs in
      let after = taken_keeps place v xs items views (inl leads) h at in
      let now = left_is place w leads none items (set views place w) after (set_here views place w (at_lt views place v at)) in
      (w, after, (refl, left_is place v leads none (xs ++ items) views h at ∙ ap (λ (l : List T). xs ++ l) (sym now)))

  pub leaves_none : (place : ℕ) (v : Tally T) → v.leads ≡ true → v.peeks ≡ 0 → Finds Dealt place v (LeavesNone v)
  leaves_none place v leads none views h at = left_is place v leads none [] views h at

  -- once the deque was empty, all that was offered is gone
  pub all_gone : (v : Tally T) → v.leads ≡ true → HeldNone v → AllGone v.offered v.taken
  all_gone v leads held =
      let views : List (Tally T) = held.0 in
      let place : ℕ = held.1 in
      let h = held.2 in
      let at = held.3 in
      let mine = (h.each place v at).leads leads in
      let others : List (Tally T) = set views place idle in (
        flat_map (λ (u : Tally T). u.taken) others,
        λ k.
            let t = weigh_set (weight_of k) views place v idle at in
            let c = h.counts k in
            let f = weigh_flat k (λ (u : Tally T). u.taken) others in
            let a = weigh_append k v.taken (flat_map (λ (u : Tally T). u.taken) others) in
            let o : weigh k v.offered ≡ weigh k (h.gone ++ []) = ap (weigh k) (mine.1 ∙ h.all) in
            let g = weigh_append k h.gone [] in
            omega arith,
      )

  -- what is left, once the hand has taken in what all peeks stole
  pub accounted : (v w : Tally T) (offered taken items : List T) → w ≡ v → v.offered ≡ offered → AsOften v.taken taken → Accounts v items → AreAccounted offered taken (left_of w)
  accounted v w offered taken items same all often a =
      let rest : left_of w ≡ items = ap (λ (u : Tally T). left_of u) same ∙ rest_is v.offered v.taken a.0 items a.1 a.2 in
      (a.0, sym all ∙ (a.1 ∙ ap (λ (l : List T). a.0 ++ l) (sym rest)), λ k. sym (often k) ∙ a.2 k)
