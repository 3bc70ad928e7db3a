-- The members of a domain's set are the integers of its intervals, in the same order.
use Rattle.std.proofs.Common.{◌≡◌, ℕ, ℤ, zero, suc, pos, ◌+ℤ◌, ◌≤ℤ◌, List, [], ◌∷◌, ◌++◌, arith}
use Rattle.std.proofs.lemmas.Int.{ints}
use Rattle.pp_algebra.specs.Members.{members, integers_from}
use Rattle.pp_algebra.proofs.MembersListed.{IsAscending, AreIntegers, members-from_list}
use Rattle.pp_domain.specs.Intervals.{IsApart, IsDomain, count, integers}
use Rattle.pp_domain.specs.Sets.{set_of}
use Rattle.pp_domain.proofs.Members.{count_is}
use Rattle.pp_domain.proofs.Ascending.{integers_room}

down : (low end high : ℤ) (ns : List ℤ) → low ≤ℤ end → IsAscending end ns high → IsAscending low ns high
down low end high [] l a = tt
down low end high (n ∷ ns) l a = (omega (arith, ints, a.0), a.1, a.2)

run-listed : (low : ℤ) (n : ℕ) (end high : ℤ) (ns : List ℤ) → (low +ℤ pos n) ≤ℤ end → end ≤ℤ high → IsAscending end ns high → IsAscending low (integers_from low n ++ ns) high
unfolding integers_from
run-listed low zero end high ns l h a = down low end high ns (omega (arith, ints)) a
run-listed low (suc n) end high ns l h a = (omega (arith, ints), omega (arith, ints), run-listed (low +ℤ pos 1) n end high ns (omega (arith, ints)) h a)

integers-listed : (ps : List (ℤ × ℤ)) (low start high : ℤ) → start ≤ℤ (low +ℤ pos 1) → IsApart low ps high → IsAscending start (integers ps) high
unfolding integers
integers-listed [] low start high l a = tt
integers-listed (p ∷ ps) low start high l a =
    let e = count_is p.0 p.1 a.1 in
    let room = integers_room ps (p.1 +ℤ pos 1) high a.2 in
    let rest = integers-listed ps (p.1 +ℤ pos 1) (p.1 +ℤ pos 1) high (omega (arith, ints)) a.2 in
    down start p.0 high _ (omega (arith, ints, a.0)) (run-listed p.0 (count p.0 p.1) (p.1 +ℤ pos 1) high (integers ps) (omega (arith, ints, e)) (omega (arith, ints, room)) rest)

pub members-set_of : (ps : List (ℤ × ℤ)) → IsDomain ps → members (set_of ps) ≡ integers ps
unfolding set_of
members-set_of ps d = members-from_list (integers ps) listed
  where
    listed : AreIntegers (integers ps)
    listed = integers-listed ps _ _ _ (omega (arith, ints)) d.apart
