-- Some of the watchers and the others, and the room that those have who stay.
use Rattle.std.proofs.Common.{◌≡◌, ℕ, ◌+◌, ◌-◌, inl, inr, Bool, true, false, List, [], ◌∷◌, ◌++◌, length, map, filter, Option, Some, None, All, append-nil, refl, ap, sym, ◌∙◌, arith}
use Rattle.std.specs.Prelude.{◌≢◌, cond}
use Rattle.std.proofs.lemmas.Bool.{cases_lt, le-ltb}
use Rattle.std.proofs.lemmas.List.{map-append}
use Rattle.std.proofs.lemmas.List.Elements.{All-nil, All-cons, All-head, All-tail}
use Rattle.pp_propagation.specs.Histories.{Change}
use Rattle.pp_propagation.specs.Watchers.{Watcher, HasRoom, has_more_room, room_after, noting, after, NotedInPart}
use Rattle.pp_propagation.proofs.Watching.{noted_in_turn}

filter-append : (p : Watcher → Bool) (xs ys : List Watcher) → filter p (xs ++ ys) ≡ filter p xs ++ filter p ys
filter-append p [] ys = refl
filter-append p (x ∷ xs) ys = by (p x) (filter p xs) (filter p (xs ++ ys)) (filter p ys) (filter-append p xs ys)
  where
    by : (b : Bool) (us bs cs : List Watcher) → bs ≡ us ++ cs → cond b (x ∷ bs) bs ≡ cond b (x ∷ us) us ++ cs
    by true us bs cs e = ap (λ vs. x ∷ vs) e
    by false us bs cs e = e

-- each part notes the changes by itself
pub after-append : (xs ys : List Watcher) (cs : List Change) → after (xs ++ ys) cs ≡ after xs cs ++ after ys cs
after-append xs ys cs =
    ap (map (noting cs)) (filter-append (λ w. has_more_room (length cs) w.room) xs ys)
    ∙ map-append (noting cs) (filter (λ w. has_more_room (length cs) w.room) xs) (filter (λ w. has_more_room (length cs) w.room) ys)

some_left : (n : ℕ) (room : Option ℕ) → has_more_room n room ≡ true → room_after n room ≢ Some 0
some_left n None h e = let f : None ≡ Some 0 = e in absurd (cc (f))
some_left n (Some m) h e = elim (cases_lt n m) [
  | inl l ↦ (let z : m - n ≡ 0 = cc (e) in absurd (omega (arith, l, z)))
  | inr l ↦ (let f : true ≡ false = sym h ∙ le-ltb n m l in absurd (cc (f)))
]

pub after_have_room : (ws : List Watcher) (cs : List Change) → All HasRoom (after ws cs)
after_have_room [] cs = All-nil HasRoom
after_have_room (w ∷ ws) cs = by (has_more_room (length cs) w.room) refl (after_have_room ws cs)
  where
    by : (b : Bool) → has_more_room (length cs) w.room ≡ b → All HasRoom (after ws cs)
        → All HasRoom (map (noting cs) (cond b (w ∷ filter (λ (v : Watcher). has_more_room (length cs) v.room) ws) (filter (λ (v : Watcher). has_more_room (length cs) v.room) ws)))
    by true e rest = All-cons HasRoom (noting cs w) (after ws cs) (some_left (length cs) w.room e) rest
    by false e rest = rest

-- what is left of the first part of a list, and what of the others
pub record Parted (ws : List Watcher) (cs : List Change) (first others : List Watcher) : Type 0 where
  pub before : List Watcher
  pub behind : List Watcher
  pub splits : ws ≡ before ++ behind
  pub firsts : after before cs ≡ first
  pub rest : after behind cs ≡ others

pub parted : (ws : List Watcher) (cs : List Change) (first others : List Watcher) → after ws cs ≡ first ++ others → Parted ws cs first others
parted ws cs [] others e = record { before = []; behind = ws; splits = refl; firsts = refl; rest = e }
parted [] cs (f ∷ first) others e = let g : [] ≡ f ∷ (first ++ others) = e in absurd (cc (g))
parted (w ∷ ws) cs (f ∷ first) others e = by (has_more_room (length cs) w.room) refl e (λ t. parted ws cs first others t) (λ t. parted ws cs (f ∷ first) others t)
  where
    more : (b : Bool) (vs : List Watcher) → map (noting cs) (cond b (w ∷ vs) vs) ≡ cond b (noting cs w ∷ map (noting cs) vs) (map (noting cs) vs)
    more true vs = refl
    more false vs = refl

    after_one : (b : Bool) → has_more_room (length cs) w.room ≡ b → (vs : List Watcher) → after (w ∷ vs) cs ≡ cond b (noting cs w ∷ after vs cs) (after vs cs)
    after_one b h vs =
        more (has_more_room (length cs) w.room) (filter (λ (v : Watcher). has_more_room (length cs) v.room) vs)
        ∙ ap (λ k. cond k (noting cs w ∷ after vs cs) (after vs cs)) h

    by : (b : Bool) → has_more_room (length cs) w.room ≡ b → after (w ∷ ws) cs ≡ f ∷ (first ++ others)
        → (after ws cs ≡ first ++ others → Parted ws cs first others) → (after ws cs ≡ f ∷ (first ++ others) → Parted ws cs (f ∷ first) others) → Parted (w ∷ ws) cs (f ∷ first) others
    by true h g on off =
        let whole : noting cs w ∷ after ws cs ≡ f ∷ (first ++ others) = sym (after_one true h ws) ∙ g in
        let head : noting cs w ≡ f = cc (whole) in
        let p = on (cc (whole)) in
        record {
          before = w ∷ p.before;
          behind = p.behind;
          splits = ap (λ vs. w ∷ vs) p.splits;
          firsts = after_one true h p.before ∙ ap (λ v. v ∷ after p.before cs) head ∙ ap (λ vs. f ∷ vs) p.firsts;
          rest = p.rest;
        }
    by false h g on off =
        let p = off (sym (after_one false h ws) ∙ g) in
        record {
          before = w ∷ p.before;
          behind = p.behind;
          splits = ap (λ vs. w ∷ vs) p.splits;
          firsts = after_one false h p.before ∙ p.firsts;
          rest = p.rest;
        }

-- where all noted some changes, and then the first of them some more
pub part_on : (ws new : List Watcher) (cs more : List Change) → NotedInPart more [] (after ws cs) new → NotedInPart (cs ++ more) cs ws new
part_on ws new cs more p =
    let q = parted ws cs p.0 p.1 p.2 in (
      q.before,
      q.behind,
      q.splits,
      p.3
          ∙ ap (λ vs. after vs more ++ after p.1 []) (sym q.firsts) ∙ ap (λ vs. after (after q.before cs) more ++ after vs []) (sym q.rest)
          ∙ ap (λ vs. vs ++ after (after q.behind cs) []) (noted_in_turn q.before cs more)
          ∙ ap (λ vs. after q.before (cs ++ more) ++ vs) (noted_in_turn q.behind cs [] ∙ ap (after q.behind) (append-nil cs)),
    )

-- whatever is seen as watchers
pub All-unmap : {W : Type 0} (seen : W → Watcher) (ws : List W) → All HasRoom (map seen ws) → All (λ w. HasRoom (seen w)) ws
All-unmap seen [] h = All-nil (λ w. HasRoom (seen w))
All-unmap seen (w ∷ ws) h = All-cons (λ v. HasRoom (seen v)) w ws (All-head HasRoom (seen w) (map seen ws) h) (All-unmap seen ws (All-tail HasRoom (seen w) (map seen ws) h))
