-- Terms that are integers, and terms that are none.
use Rattle.std.proofs.Common.{◌≡◌, ℕ, ℤ, Bool, true, false, Some, sym, ◌∙◌, subst}
use Rattle.std.specs.FinSet as set
use Rattle.pp_algebra.specs.Terms.{Tree, int, node}
use Rattle.pp_algebra.specs.Rows.{Domain}
use Rattle.pp_algebra.specs.Covers.{MayGo}
use Rattle.pp_algebra.specs.Solve.{equation, membership}
use Rattle.pp_heap.specs.declared.state.State.{State}
use Rattle.pp_heap.specs.Agreement.{Excludes}
use Rattle.pp_heap.specs.Outcomes.{IsVerdict}
use Rattle.pp_unify.proofs.Heaps.{IsNamed, named_put}

pub has_verdict : (a : State) (n : ℤ) (d : Domain) (b : Bool) → b ≡ set.contains d n → IsVerdict a a (membership (int n) d) b
has_verdict a n d true e = λ ds s w. ((λ r. (r, sym e)), λ p. p.0)
has_verdict a n d false e = λ ds s w r m. let f : false ≡ true = e ∙ m in absurd (cc)

-- a compound is in no domain, and is no integer
pub named_out : (a : State) (t : Tree ℕ) (d : Domain) → IsNamed t → Excludes a (membership t d)
named_out a t d n = λ ds s w r m. let k = named_put s t n in subst (MayGo ds (Some d)) k.is m

pub named_apart : (a : State) (t : Tree ℕ) (z : ℤ) → IsNamed t → Excludes a (equation t (int z))
named_apart a t z n = λ ds s w r e. let k = named_put s t n in let f : node k.name k.arguments ≡ int z = sym k.is ∙ e in absurd (cc)
