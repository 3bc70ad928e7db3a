-- What becomes of an equation of two terms, but for their arguments.
use Rattle.std.specs.Prelude.{◌≡◌, ℕ, ◌<◌, Bool, true, false, length}
use Rattle.pp_algebra.specs.Terms.{Tree, put}
use Rattle.pp_algebra.specs.Rows.{Domains}
use Rattle.pp_algebra.specs.Solve.{equation}
use Rattle.pp_heap.specs.declared.state.State.{State}
use Rattle.pp_unify.specs.declared.unify.Met.{Met}
use Rattle.pp_unify.specs.declared.unify.Met.TheVariants.{Apart, Done, Open}
use Rattle.pp_heap.specs.Values.{cell_at, term_at}
use Rattle.pp_heap.specs.Stores.{Store, store_of}
use Rattle.pp_heap.specs.Agreement.{Agrees, Excludes}
use Rattle.pp_heap.specs.Soundness.{IsCompound}
use Rattle.pp_heap.specs.Outcomes.{IsSame, Solves}

-- two compounds of one name and number of arguments, which the two terms now are
pub record IsOpen (st : Store) (t u : Tree ℕ) (p q : ℕ) : Type 0 where
  pub left_within : p < length st.heap
  pub right_within : q < length st.heap
  pub same : cell_at st.heap p ≡ cell_at st.heap q
  pub compound : IsCompound (cell_at st.heap p)
  pub left_is : (ds : Domains ℕ) (s : ℕ → Tree ℕ) → Agrees st ds s → put s t ≡ put s (term_at st.heap p)
  pub right_is : (ds : Domains ℕ) (s : ℕ → Tree ℕ) → Agrees st ds s → put s u ≡ put s (term_at st.heap q)

abbrev pub HasMet : State → State → Tree ℕ → Tree ℕ → Met → Type 0
HasMet old new t u Apart = Excludes old (equation t u)
HasMet old new t u Done = Solves old new t u
HasMet old new t u (Open p q) = IsSame old new × IsOpen (store_of old) t u p q

abbrev pub met_by : Bool → Met
met_by true = Done
met_by false = Apart
