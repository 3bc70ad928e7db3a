use Rattle.std.proofs.Common.{rules, ◌≡◌, ◌++◌, ◌∷◌, [], subst, Some}
use Rattle.std.proofs.lemmas.List.Elements.{All-push}
use Rattle.pp_turn.specs.Seats.{Rests}
use Rattle.pp_turn.proofs.Lists.{ByPlace, by_place_init}
use Rattle.pp_shared_bench.specs.Seats.{IsAtRest}
use Rattle.pp_shared_bench.proofs.turns.at_rest.Goals as goal

pub loop-seat-preserved : goal.loop-seat-preserved
loop-seat-preserved c =
    let split : c.loop-seat.seats.items ≡ c.pop.new.self.items ++ c.in-Some.seat ∷ [] = search rules in
    let pushed : c.push.new.self.items ≡ c.loop-seat.all.items ++ c.in-Some.seat ∷ [] = search rules in
    let parts = by_place_init (λ i s. Rests c.args.turn.now (Some 0) i 1 [] s) c.pop.new.self.items c.in-Some.seat (subst (λ xs. ByPlace (λ i s. Rests c.args.turn.now (Some 0) i 1 [] s) xs) split c.loop-seat.invariant.0) in
    (parts.0, rw pushed (All-push (IsAtRest c.args.turn.now) c.loop-seat.all.items c.in-Some.seat c.loop-seat.invariant.1 (parts.1.turn, parts.1.out)))
