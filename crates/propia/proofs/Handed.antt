-- The words behind the program's own name.
use Rattle.std.proofs.Common.{◌≡◌, List, map, drop, Option, Ok, ap, ◌∙◌, sym, subst}
use Rattle.std.specs.Prelude.{Result, IfOk, IfSome}
use Rattle.pp_language.specs.declared.status.Status.{Status}
use Rattle.pp_language.specs.Texts.{Text}
use Rattle.propia.specs.Recorders.{IsServed}

-- what is known of an answer that came
pub for_ok : {T E : Type 0} (Q : T → Type 0) (r : Result T E) (x : T) → r ≡ Ok x → Q x → IfOk r Q
for_ok Q r x e q = subst (λ y. IfOk y Q) (sym e) q

-- the reply to the words that were handed on is the one to those behind the first
pub handed : {A : Type 0} (f : A → Text) (left before after : Option Text) (s : Status) (words given items : List A) → words ≡ drop 1 given → given ≡ items → IfSome left (λ text. IsServed (map f words) text before after s) → IfSome left (λ text. IsServed (map f (drop 1 items)) text before after s)
handed f left before after s words given items a b q = subst (λ ws. IfSome left (λ text. IsServed (map f ws) text before after s)) (a ∙ ap (drop 1) b) q
