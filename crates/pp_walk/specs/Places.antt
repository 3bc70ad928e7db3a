-- Where a search machine stands: the configuration here, and the choices that it took to come here, the one taken last
-- first.
use Rattle.std.specs.Prelude.{◌≡◌, ℕ, zero, suc, List, ◌⊎◌, Option, refl}
use Rattle.std.proofs.Common.{inl, inr}
use Rattle.std.specs.Coded.{Coded, code_by, coded×, coded⊎, coded_list, coded_option, coded_ℕ, coded_ℤ}
use Rattle.std.specs.FinSet as set
use Rattle.pp_algebra.specs.Terms.{Trees}
use Rattle.pp_algebra.specs.Rows.{Domain}
use Rattle.pp_sld.specs.BuiltIns.{Test, less, at_most, equal, differ, plus, times, indomain}
use Rattle.pp_sld.specs.Goals.{Shape, user, equals, member, test, Goal, Config}
use Rattle.pp_row.specs.Codes.{trees_code}

pub record Place : Type 0 where
  pub above : List Config
  pub here : Config

-- places as data, so that contracts can tell them apart
abbrev number : Test → ℕ
number less = 0
number at_most = 1
number equal = 2
number differ = 3
number plus = 4
number times = 5
number indomain = 6

abbrev test_at : ℕ → Test
test_at zero = less
test_at (suc zero) = at_most
test_at (suc (suc zero)) = equal
test_at (suc (suc (suc zero))) = differ
test_at (suc (suc (suc (suc zero)))) = plus
test_at (suc (suc (suc (suc (suc zero))))) = times
test_at (suc (suc (suc (suc (suc (suc n)))))) = indomain

abbrev shape_to : Shape → (ℕ × ℕ) ⊎ (Domain ⊎ ℕ)
shape_to (user p) = inl (p.name, p.arity)
shape_to (member d) = inr (inl d)
shape_to (test t) = inr (inr (suc (number t)))
shape_to equals = inr (inr 0)

abbrev test_shape : ℕ → Shape
test_shape zero = equals
test_shape (suc n) = test (test_at n)

abbrev shape_from : (ℕ × ℕ) ⊎ (Domain ⊎ ℕ) → Shape
shape_from (inl p) = user (record { name = p.0; arity = p.1 })
shape_from (inr (inl d)) = member d
shape_from (inr (inr n)) = test_shape n

abbrev shape_back : (s : Shape) → shape_from (shape_to s) ≡ s
shape_back (user p) = refl
shape_back (member d) = refl
shape_back equals = refl
shape_back (test less) = refl
shape_back (test at_most) = refl
shape_back (test equal) = refl
shape_back (test differ) = refl
shape_back (test plus) = refl
shape_back (test times) = refl
shape_back (test indomain) = refl

abbrev pub shape_code : Coded Shape
shape_code = code_by ((ℕ × ℕ) ⊎ (Domain ⊎ ℕ)) (coded⊎ (coded× coded_ℕ coded_ℕ) (coded⊎ (set.code coded_ℤ) coded_ℕ))
    shape_to shape_from shape_back

abbrev pub goal_code : Coded (Goal ℕ)
goal_code = code_by (Shape × Trees ℕ) (coded× shape_code trees_code) (λ g. (g.shape, g.arguments))
    (λ p. record { shape = p.0; arguments = p.1 }) (λ _. refl)

abbrev pub config_code : Coded Config
config_code = code_by (List (Goal ℕ) × (Trees ℕ × (List (Option Domain) × ℕ)))
    (coded× (coded_list goal_code) (coded× trees_code (coded× (coded_list (coded_option (set.code coded_ℤ))) coded_ℕ)))
    (λ c. (c.goals, (c.columns, (c.domains, c.depth))))
    (λ p. record { goals = p.0; columns = p.1.0; domains = p.1.1.0; depth = p.1.1.1 }) (λ _. refl)

abbrev pub place_code : Coded Place
place_code = code_by (List Config × Config) (coded× (coded_list config_code) config_code) (λ p. (p.above, p.here))
    (λ p. record { above = p.0; here = p.1 }) (λ _. refl)
