-- What seats have seen of the two bits, the rule, and what each kind of step tells its seat.
use Rattle.std.specs.Prelude.{◌≡◌, ℕ, ◌+◌, List, [], ◌∷◌, Bool, true, false, ◌||◌, cond}
use mathlib.Core.Option.{some}
use lib.ListN.{get_elem?}
use Rattle.pp_stop.specs.Words.{word_of}
use Rattle.pp_stop.specs.declared.view.View.{View}
use Rattle.atomic_table.specs.Table.{Step, Me}

abbrev pub view : Bool → Bool → ℕ → ℕ → View
view settled dry loads late = record { settled = settled; dry = dry; loads = loads; late = late }

abbrev pub blank : View
blank = view false false 0 0

abbrev pub has_any : View → Bool
has_any v = v.settled || v.dry

-- after a load that saw these bits, among which are all that were seen before
abbrev pub after_load : View → Bool → Bool → View
after_load v settled dry = view settled dry (v.loads + 1) (v.late + cond (has_any v) 1 0)

-- after these bits were raised
abbrev pub after_raise : View → Bool → Bool → View
after_raise v settled dry = view (settled || v.settled) (dry || v.dry) v.loads v.late

-- each bit that the view has seen is up
abbrev pub Knows : Bool → Bool → View → Type 0
Knows settled dry v = (v.settled ≡ true → settled ≡ true) × (v.dry ≡ true → dry ≡ true)

-- the rule
pub record IsRaised (words : List ℕ) (views : List View) : Type 0 where
  pub settled : Bool
  pub dry : Bool
  pub word : words ≡ word_of settled dry ∷ []
  pub known : (id : ℕ) (v : View) → get_elem? views id ≡ some v → Knows settled dry v

abbrev pub Loaded : Step (Unit {0}) → Me (Unit {0}) View → ℕ → Me (Unit {0}) View → Type 0
Loaded step v found w = (settled : Bool) × (dry : Bool) × (found ≡ word_of settled dry) × (w ≡ (after_load v.0 settled dry, v.1)) × Knows settled dry v.0

abbrev pub Raised : Bool → Bool → Me (Unit {0}) View → Me (Unit {0}) View → Type 0
Raised settled dry v w = w ≡ (after_raise v.0 settled dry, v.1)
