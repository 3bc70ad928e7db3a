-- Two calls after one another, as one.
use Rattle.std.proofs.Common.{◌≡◌, ℕ, ◌+◌, ◌-◌, ◌≤◌, List, [], ◌++◌, length, take, drop, Option, None, Some, zero, suc, false, nat_eq, sym, ◌∙◌, ap, append_assoc, arith, length-append, drop-drop}
use Rattle.std.proofs.lemmas.Grind.{common_steps}
use Rattle.std.proofs.lemmas.List.{take-append-drop}
use Rattle.pp_io.specs.Ends.{Gave, Took}

-- what two reads gave
pub gave_more : (before between after : Option (List ℕ)) (first next : List ℕ)
    → Gave before between first → Gave between after next → Gave before after (first ++ next)
gave_more None between after first next h k = tt
gave_more (Some a) None after first next h k = absurd h
gave_more (Some a) (Some b) None first next h k = absurd k
gave_more (Some a) (Some b) (Some c) first next h k = h ∙ ap (λ z. first ++ z) k ∙ sym (append_assoc first next c)

-- what two writes took
pub took_more : (before between after : Option (List ℕ)) (first next : List ℕ)
    → Took before between first → Took between after next → Took before after (first ++ next)
took_more before between None first next h k = tt
took_more before None (Some c) first next h k = absurd k
took_more None (Some b) (Some c) first next h k = absurd h
took_more (Some a) (Some b) (Some c) first next h k = k ∙ ap (λ z. z ++ next) h ∙ append_assoc a first next

-- where n bytes of the rest are done, what follows them is the rest
pub split_more : (bytes done rest : List ℕ) (n : ℕ) → bytes ≡ done ++ rest → n ≤ length rest
    → bytes ≡ (done ++ take n rest) ++ take (length rest - n) (drop n rest)
split_more bytes done rest n h k = grind (arith, common_steps)

-- of no bytes no rest is left
pub no_rest : (bytes done rest : List ℕ) → bytes ≡ [] → bytes ≡ done ++ rest → false ≡ nat_eq (length rest) 0 → ⊥
no_rest bytes done rest h k = not_zero (length rest) (omega (arith, ap length h, ap length k, length-append done rest))
  where
    not_zero : (n : ℕ) → n ≡ 0 → false ≡ nat_eq n 0 → ⊥
    not_zero zero e f = cc
    not_zero (suc n) e f = omega arith

-- how long it is with the first n of the next bytes
pub length-added : (bytes next : List ℕ) (n : ℕ) → n ≤ length next → length (bytes ++ take n next) ≡ length bytes + n
length-added bytes next n h = grind (arith, common_steps)

-- where the bytes from a place on are left, and n of them were copied
pub gave_from : (bytes into : List ℕ) (given n : ℕ) → take n into ≡ take n (drop given bytes)
    → drop given bytes ≡ take n into ++ drop (given + n) bytes
gave_from bytes into given n copied =
    sym (take-append-drop n (drop given bytes)) ∙ grind (arith, common_steps, copied, drop-drop)
