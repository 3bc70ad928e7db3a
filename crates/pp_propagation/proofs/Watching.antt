-- Watchers may note changes one after another, or all at once.
use Rattle.std.proofs.Common.{◌≡◌, ℕ, zero, suc, ◌+◌, ◌-◌, ◌<◌, ◌≤◌, ◌⊎◌, inl, inr, Bool, true, false, List, [], ◌∷◌, ◌++◌, length, map, filter, Option, Some, None, All, append-nil, append_assoc, refl, ap, sym, ◌∙◌, arith}
use Rattle.std.specs.Prelude.{cond, nat_lt, ◌&&◌}
use Rattle.std.proofs.Math.ListN.{length-append}
use Rattle.std.proofs.lemmas.Bool.{cases_lt, lt-ltb, le-ltb}
use Rattle.std.proofs.lemmas.List.Elements.{All-head, All-tail}
use Rattle.pp_propagation.specs.Histories.{Change}
use Rattle.pp_propagation.specs.Watchers.{Watcher, HasRoom, has_more_room, room_after, noting, after}

by_order : (n m k : ℕ) → (n < m) ⊎ (m ≤ n) → (k < m - n) ⊎ (m - n ≤ k) → nat_lt (n + k) m ≡ (nat_lt n m && nat_lt k (m - n))
by_order n m k (inl h) (inl i) = lt-ltb (n + k) m (omega (arith, h, i)) ∙ sym (ap (λ b. b && nat_lt k (m - n)) (lt-ltb n m h) ∙ lt-ltb k (m - n) i)
by_order n m k (inl h) (inr i) = le-ltb (n + k) m (omega (arith, h, i)) ∙ sym (ap (λ b. b && nat_lt k (m - n)) (lt-ltb n m h) ∙ le-ltb k (m - n) i)
by_order n m k (inr h) i = le-ltb (n + k) m (omega (arith, h)) ∙ sym (ap (λ b. b && nat_lt k (m - n)) (le-ltb n m h))

lt_split : (n m k : ℕ) → nat_lt (n + k) m ≡ (nat_lt n m && nat_lt k (m - n))
lt_split n m k = by_order n m k (cases_lt n m) (cases_lt k (m - n))

more_room : (n k : ℕ) (room : Option ℕ) → has_more_room (n + k) room ≡ (has_more_room n room && has_more_room k (room_after n room))
more_room n k None = refl
more_room n k (Some m) = lt_split n m k

less_room : (n k : ℕ) (room : Option ℕ) → room_after k (room_after n room) ≡ room_after (n + k) room
less_room n k None = refl
less_room n k (Some m) = ap Some (omega arith)

noting_both : (first then : List Change) (w : Watcher) → noting then (noting first w) ≡ noting (first ++ then) w
noting_both first then w =
    ap (λ cs. record { noted = cs; room = room_after (length then) (room_after (length first) w.room) }) (append_assoc w.noted first then)
    ∙ ap (λ o. record { noted = w.noted ++ (first ++ then); room = o }) (less_room (length first) (length then) w.room ∙ ap (λ n. room_after n w.room) (sym (length-append first then)))

-- one watcher before others
step : (first then : List Change) (w : Watcher) (rest all : List Watcher) → after rest then ≡ all → (b : Bool) (c : Bool) → has_more_room (length then) (room_after (length first) w.room) ≡ c
    → after (cond b (noting first w ∷ rest) rest) then ≡ cond (b && c) (noting (first ++ then) w ∷ all) all
step first then w rest all e false c f = e
step first then w rest all e true true f =
    ap (λ b. map (noting then) (cond b (noting first w ∷ filter (λ v. has_more_room (length then) v.room) rest) (filter (λ v. has_more_room (length then) v.room) rest))) f
    ∙ ap (λ v. v ∷ after rest then) (noting_both first then w)
    ∙ ap (λ vs. noting (first ++ then) w ∷ vs) e
step first then w rest all e true false f =
    ap (λ b. map (noting then) (cond b (noting first w ∷ filter (λ v. has_more_room (length then) v.room) rest) (filter (λ v. has_more_room (length then) v.room) rest))) f
    ∙ e

map_cond : (f : Watcher → Watcher) (b : Bool) (w : Watcher) (ws : List Watcher) → map f (cond b (w ∷ ws) ws) ≡ cond b (f w ∷ map f ws) (map f ws)
map_cond f true w ws = refl
map_cond f false w ws = refl

pub noted_in_turn : (ws : List Watcher) (first then : List Change) → after (after ws first) then ≡ after ws (first ++ then)
noted_in_turn [] first then = refl
noted_in_turn (w ∷ ws) first then =
    let n = length first in
    let k = length then in
    let b = has_more_room n w.room in
    let rest = filter (λ (v : Watcher). has_more_room n v.room) ws in
    let room : (b && has_more_room k (room_after n w.room)) ≡ has_more_room (length (first ++ then)) w.room = sym (more_room n k w.room) ∙ ap (λ m. has_more_room m w.room) (sym (length-append first then)) in
    ap (λ vs. after vs then) (map_cond (noting first) b w rest)
    ∙ step first then w (after ws first) (after ws (first ++ then)) (noted_in_turn ws first then) b (has_more_room k (room_after n w.room)) refl
    ∙ ap (λ c. cond c (noting (first ++ then) w ∷ after ws (first ++ then)) (after ws (first ++ then))) room
    ∙ sym (map_cond (noting (first ++ then)) (has_more_room (length (first ++ then)) w.room) w (filter (λ (v : Watcher). has_more_room (length (first ++ then)) v.room) ws))

some_room : (room : Option ℕ) → (room ≡ Some 0 → ⊥) → (has_more_room 0 room ≡ true) × (room_after 0 room ≡ room)
some_room None h = (refl, refl)
some_room (Some zero) h = absurd (h refl)
some_room (Some (suc m)) h = (lt-ltb 0 (suc m) (omega arith), ap Some (omega arith))

pub nothing_noted : (ws : List Watcher) → All HasRoom ws → after ws [] ≡ ws
nothing_noted [] h = refl
nothing_noted (w ∷ ws) h =
    let r = some_room w.room (All-head HasRoom w ws h) in
    ap (λ b. map (noting []) (cond b (w ∷ filter (λ (v : Watcher). has_more_room 0 v.room) ws) (filter (λ (v : Watcher). has_more_room 0 v.room) ws))) r.0
    ∙ ap (λ vs. noting [] w ∷ vs) (nothing_noted ws (All-tail HasRoom w ws h))
    ∙ ap (λ cs. record { noted = cs; room = room_after 0 w.room } ∷ ws) (append-nil w.noted)
    ∙ ap (λ o. record { noted = w.noted; room = o } ∷ ws) r.1
