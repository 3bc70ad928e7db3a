-- What a turn comes to, case by case.
use Rattle.std.proofs.Common.{◌≡◌, Result, Ok, Err, IfOk, subst}
use Rattle.pp_worker.specs.Turns.{MatchTurned}
use Rattle.pp_worker.specs.declared.turned.Turned.{Turned}
use Rattle.pp_worker.specs.declared.turned.Turned.TheVariants.{Worked, Stopped, Idle}

pub worked : (A B C : Type 0) (t : Turned) → t ≡ Worked → MatchTurned t A B C → A
worked A B C t is x = subst (λ (s : Turned). MatchTurned s A B C) is x

pub each_case : {E : Type 0} (A B C A' B' C' : Type 0) → (A → A') → (B → B') → (C → C') → (r : Result Turned E) → IfOk r (λ t. MatchTurned t A B C) → IfOk r (λ t. MatchTurned t A' B' C')
each_case A B C A' B' C' f g h (Ok Worked) x = f x
each_case A B C A' B' C' f g h (Ok Stopped) x = g x
each_case A B C A' B' C' f g h (Ok Idle) x = h x
each_case A B C A' B' C' f g h (Err e) x = tt
