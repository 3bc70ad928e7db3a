-- A walk over watchers, each of which notes a change.
use Rattle.std.proofs.Common.{◌≡◌, ℕ, zero, suc, ◌+◌, ◌-◌, ◌<◌, ◌≤◌, Bool, true, false, List, [], ◌∷◌, ◌++◌, length, take, drop, set, get_or, map, Option, Some, None, All, append-nil, append_assoc, refl, ap, sym, ◌∙◌, subst, arith}
use Rattle.std.specs.Prelude.{◌≢◌, cond, remove, Result, Ok, Err, OnErr}
use Rattle.std.proofs.Math.Seq.{map-set_same, drop-cons, drop-append_seam, take-append_seam}
use Rattle.std.proofs.lemmas.Bool.{lt-ltb, le-ltb}
use Rattle.std.proofs.lemmas.List.{get_or-map, take_more_set, take-set, drop-set-lt, drop_all, take_all, length-set, length-take-le, length-append, length-map, take-append-drop, map-append, map-set, take-map, drop-map}
use Rattle.std.proofs.lemmas.List.Elements.{All-head, All-tail, All-map}
use Rattle.pp_propagation.specs.Histories.{Change}
use Rattle.pp_propagation.specs.Watchers.{Watcher, HasRoom, has_more_room, room_after, noting, after, NotedInPart}
use Rattle.pp_propagation.proofs.Watching.{nothing_noted}
use Rattle.pp_watch.specs.declared.keep.Keep.TheVariants.{Stay, Leave}
use Rattle.pp_watch.specs.Watching.{keep_in, keep_by}
use Rattle.pp_watch.proofs.Parts.{after-append}

-- those before `at` are the first of the old ones and have noted the change, and those from `at` on have not been told
pub record Noted (c : Change) (at : ℕ) (now old : List Watcher) : Type 0 where
  pub inside : at ≤ length now
  pub first : List Watcher
  pub noted : take at now ≡ after first (c ∷ [])
  pub splits : old ≡ first ++ drop at now
  pub room : All HasRoom (drop at now)

pub begins : (c : Change) (ws : List Watcher) → All HasRoom ws → Noted c 0 ws ws
begins c ws h = record { inside = omega arith; first = []; noted = refl; splits = refl; room = h }

pub all_noted : (c : Change) (at : ℕ) (now old : List Watcher) → length now ≤ at → Noted c at now old → now ≡ after old (c ∷ [])
all_noted c at now old l n =
    let none : drop at now ≡ [] = drop_all at now l in
    sym (take_all at now l) ∙ n.noted ∙ ap (λ ws. after ws (c ∷ [])) (sym (n.splits ∙ ap (λ ws. n.first ++ ws) none ∙ append-nil n.first))

pub part_noted : (c : Change) (at : ℕ) (now old : List Watcher) → Noted c at now old → NotedInPart (c ∷ []) [] old now
part_noted c at now old n =
    (n.first, drop at now, n.splits, sym (take-append-drop at now) ∙ ap (λ ws. ws ++ drop at now) n.noted ∙ ap (λ ws. after n.first (c ∷ []) ++ ws) (sym (nothing_noted (drop at now) n.room)))

stays_where : (room : Option ℕ) → room ≢ Some 0 → keep_in (room_after 1 room) ≡ Stay → has_more_room 1 room ≡ true
stays_where None h e = refl
stays_where (Some zero) h e = absurd (h refl)
stays_where (Some (suc zero)) h e = let f : Leave ≡ Stay = e in absurd (cc (f))
stays_where (Some (suc (suc m))) h e = lt-ltb 1 (suc (suc m)) (omega arith)

leaves_where : (room : Option ℕ) → room ≢ Some 0 → keep_in (room_after 1 room) ≡ Leave → has_more_room 1 room ≡ false
leaves_where None h e = let f : Stay ≡ Leave = e in absurd (cc (f))
leaves_where (Some zero) h e = absurd (h refl)
leaves_where (Some (suc zero)) h e = le-ltb 1 1 (omega arith)
leaves_where (Some (suc (suc m))) h e =
    let n : suc m ≡ suc (suc m) - 1 = omega arith in
    let f : Stay ≡ Leave = ap (λ k. keep_in (Some k)) n ∙ e in absurd (cc (f))

module _ (c : Change) (at : ℕ) (now old : List Watcher) (d y : Watcher) (l : at < length now) (n : Noted c at now old) (is : y ≡ noting (c ∷ []) (get_or now at d)) where
  abbrev here : Watcher
  here = get_or now at d

  rest : drop at now ≡ here ∷ drop (suc at) now
  rest = drop-cons now at d l

  pub has_room : HasRoom here
  has_room = All-head HasRoom here (drop (suc at) now) (subst (All HasRoom) rest n.room)

  room_later : All HasRoom (drop (suc at) now)
  room_later = All-tail HasRoom here (drop (suc at) now) (subst (All HasRoom) rest n.room)

  splits_later : old ≡ (n.first ++ here ∷ []) ++ drop (suc at) now
  splits_later = n.splits ∙ ap (λ ws. n.first ++ ws) rest ∙ sym (append_assoc n.first (here ∷ []) (drop (suc at) now))

  one_after : (b : Bool) → has_more_room 1 here.room ≡ b → after (n.first ++ here ∷ []) (c ∷ []) ≡ after n.first (c ∷ []) ++ cond b (y ∷ []) []
  one_after b e =
      after-append n.first (here ∷ []) (c ∷ [])
      ∙ ap (λ k. after n.first (c ∷ []) ++ map (noting (c ∷ [])) (cond k (here ∷ []) [])) e
      ∙ ap (λ ws. after n.first (c ∷ []) ++ ws) (by b)
    where
      by : (k : Bool) → map (noting (c ∷ [])) (cond k (here ∷ []) []) ≡ cond k (y ∷ []) []
      by true = ap (λ w. w ∷ []) (sym is)
      by false = refl

  later_set : drop (suc at) (set now at y) ≡ drop (suc at) now
  later_set = drop-set-lt (suc at) now at y (omega arith)

  pub stays : keep_by y ≡ Stay → Noted c (at + 1) (set now at y) old
  stays k =
      let more : has_more_room 1 here.room ≡ true = stays_where here.room has_room (ap keep_by (sym is) ∙ k) in
      let drops : drop (at + 1) (set now at y) ≡ drop (suc at) now = ap (λ i. drop i (set now at y)) (let e : at + 1 ≡ suc at = omega arith in e) ∙ later_set in
      record {
        inside = omega (arith, l, length-set now at y);
        first = n.first ++ here ∷ [];
        noted = take_more_set now at y l ∙ ap (λ ws. ws ++ y ∷ []) n.noted ∙ sym (one_after true more);
        splits = splits_later ∙ ap (λ ws. (n.first ++ here ∷ []) ++ ws) (sym drops);
        room = subst (All HasRoom) (sym drops) room_later;
      }

  pub leaves : keep_by y ≡ Leave → Noted c at (remove (set now at y) at) old
  leaves k =
      let none : has_more_room 1 here.room ≡ false = leaves_where here.room has_room (ap keep_by (sym is) ∙ k) in
      let gone : remove (set now at y) at ≡ take at now ++ drop (suc at) now = ap (λ ws. ws ++ drop (suc at) (set now at y)) (take-set now at y) ∙ ap (λ ws. take at now ++ ws) later_set in
      let long : length (take at now) ≡ at = length-take-le at now (omega (arith, l)) in
      let drops : drop at (remove (set now at y) at) ≡ drop (suc at) now = ap (drop at) gone ∙ ap (λ i. drop i (take at now ++ drop (suc at) now)) (sym long) ∙ drop-append_seam (take at now) (drop (suc at) now) in
      let takes : take at (remove (set now at y) at) ≡ take at now = ap (take at) gone ∙ ap (λ i. take i (take at now ++ drop (suc at) now)) (sym long) ∙ take-append_seam (take at now) (drop (suc at) now) in
      record {
        inside = omega (arith, ap length gone, length-append (take at now) (drop (suc at) now), long);
        first = n.first ++ here ∷ [];
        noted = takes ∙ n.noted ∙ sym (one_after false none ∙ append-nil (after n.first (c ∷ [])));
        splits = splits_later ∙ ap (λ ws. (n.first ++ here ∷ []) ++ ws) (sym drops);
        room = subst (All HasRoom) (sym drops) room_later;
      }

-- the same of whatever is seen as a watcher
module _ {W : Type 0} (seen : W → Watcher) (c : Change) where
  pub seen_begins : (ws : List W) → All (λ w. HasRoom (seen w)) ws → Noted c 0 (map seen ws) (map seen ws)
  seen_begins ws h = begins c (map seen ws) (All-map HasRoom seen ws h)

  module _ (at : ℕ) (ws : List W) (old : List Watcher) (d w : W) (l : at < length ws) (n : Noted c at (map seen ws) old) (is : w ≡ get_or ws at d) where
    inside : at < length (map seen ws)
    inside = omega (arith, l, length-map ws seen)

    same : get_or (map seen ws) at (seen d) ≡ seen w
    same = get_or-map seen ws at d (seen d) l ∙ ap seen (sym is)

    pub seen_room : HasRoom (seen w)
    seen_room = subst HasRoom same (has_room c at (map seen ws) old (seen d) (noting (c ∷ []) (get_or (map seen ws) at (seen d))) inside n refl)

    module _ (y : W) where
      noted_here : seen y ≡ noting (c ∷ []) (seen w) → seen y ≡ noting (c ∷ []) (get_or (map seen ws) at (seen d))
      noted_here e = e ∙ ap (noting (c ∷ [])) (sym same)

      pub seen_stays : seen y ≡ noting (c ∷ []) (seen w) → keep_by (seen y) ≡ Stay → Noted c (at + 1) (map seen (set ws at y)) old
      seen_stays e k = subst (λ xs. Noted c (at + 1) xs old) (sym (map-set seen ws at y)) (stays c at (map seen ws) old (seen d) (seen y) inside n (noted_here e) k)

      pub seen_leaves : seen y ≡ noting (c ∷ []) (seen w) → keep_by (seen y) ≡ Leave → (new : List W) → new ≡ remove (set ws at y) at → Noted c at (map seen new) old
      seen_leaves e k new is_new =
          subst (λ xs. Noted c at xs old)
          (sym (ap (map seen) is_new ∙ map-append seen (take at (set ws at y)) (drop (suc at) (set ws at y)) ∙ ap (λ vs. vs ++ map seen (drop (suc at) (set ws at y))) (sym (take-map seen at (set ws at y))) ∙ ap (λ vs. take at (map seen (set ws at y)) ++ vs) (sym (drop-map seen (suc at) (set ws at y))) ∙ ap (λ vs. remove vs at) (map-set seen ws at y)))
          (leaves c at (map seen ws) old (seen d) (seen y) inside n (noted_here e) k)

      -- and where want of memory is answered
      pub seen_part : {T E : Type 0} (r : Result T E) → seen y ≡ seen w → (new : List W) → new ≡ set ws at y → OnErr r (NotedInPart (c ∷ []) [] old (map seen new))
      seen_part (Ok x) e new is_new = tt
      seen_part (Err x) e new is_new =
          let back : map seen new ≡ map seen ws = ap (map seen) is_new ∙ map-set_same seen ws at y d (e ∙ ap seen is) in
          subst (NotedInPart (c ∷ []) [] old) (sym back) (part_noted c at (map seen ws) old n)
