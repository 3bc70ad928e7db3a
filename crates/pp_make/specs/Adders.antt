-- The line of an adder in two parts, by its bits.
use Rattle.std.specs.Prelude.{ℕ, suc, ◌++◌, codes}
use Rattle.std.specs.Fmt.{decimal}
use Rattle.pp_language.specs.Texts.{Text}
use Rattle.pp_language.specs.Generator.{numbered_name}

-- the equations of the adder at place i, whose first input and whose sum are these bits
abbrev pub values_text : ℕ → ℕ → ℕ → Text
values_text i input sum = numbered_name (codes "A") i ++ codes " = " ++ decimal input ++ numbered_name (codes ", S") i ++ codes " = " ++ decimal sum

-- its goal, up to the carry that it is given, and from there on
abbrev pub inputs_text : ℕ → Text
inputs_text i = numbered_name (codes ", add(A") i ++ numbered_name (codes ",B") i ++ numbered_name (codes ",C") i

abbrev pub outputs_text : ℕ → Text
outputs_text i = numbered_name (codes ",S") i ++ numbered_name (codes ",C") (suc i) ++ codes ") infers most,"

abbrev pub adder_text : ℕ → ℕ → ℕ → Text
adder_text i input sum = values_text i input sum ++ inputs_text i ++ outputs_text i
