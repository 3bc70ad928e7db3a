-- Which works are the same, and which is later, as tests.
use Rattle.std.specs.Prelude.{ℕ, Bool, true, false, ◌&&◌, ◌||◌, nat_eq, nat_lt, List, [], ◌∷◌, Option, Some, None}
use Rattle.pp_sld.specs.Works.{Work, spent, at, places}
use Rattle.pp_path.specs.declared.levels.Level.{Level}

abbrev pub same_levels : List Level → List Level → Bool
same_levels [] [] = true
same_levels [] (k ∷ ks) = false
same_levels (l ∷ ls) [] = false
same_levels (l ∷ ls) (k ∷ ks) = (nat_eq l.now k.now && nat_eq l.end k.end) && same_levels ls ks

abbrev pub are_same : Option (List Level) → Option (List Level) → Bool
are_same None None = true
are_same None (Some ks) = false
are_same (Some ls) None = false
are_same (Some ls) (Some ks) = same_levels ls ks

-- the test of `ComesAfter`, and that of `IsLater`
abbrev pub comes_after : List ℕ → List ℕ → Bool
comes_after [] ks = false
comes_after (j ∷ js) [] = true
comes_after (j ∷ js) (k ∷ ks) = nat_lt k j || (nat_eq j k && comes_after js ks)

abbrev pub is_later : Work → Work → Bool
is_later spent v = false
is_later (at ls) spent = false
is_later (at ls) (at ks) = comes_after (places ls) (places ks)
