use Rattle.std.proofs.Common.{◌≡◌, ℕ, List, ◌++◌, vec_len}
use Rattle.pp_algebra.specs.Terms.{Trees}
use Rattle.pp_language.specs.Texts.{Text}
use Rattle.pp_print.specs.Left.{behind}
use Rattle.pp_print.proofs.terms.write_behind.Given as goal

abbrev pub invariant-loop-arguments : goal.invariant-loop-arguments
invariant-loop-arguments l = (names : List Text) (ts : Trees ℕ) → l.out.items ++ behind names l.unclosed.items ts ≡ l.initial.out.items ++ behind names l.initial.unclosed.items ts

abbrev pub decreases-loop-arguments : goal.decreases-loop-arguments
decreases-loop-arguments l = vec_len l.unclosed
