-- The generated text: a chain of adders of one bit whose inputs are bits of pseudo-random numbers, and four different values.
use Rattle.std.specs.Prelude.{ℕ, zero, suc, ◌+◌, ◌*◌, ◌-◌, ◌/◌, ◌%◌, List, [], ◌∷◌, ◌++◌, map, codes}
use Rattle.std.specs.Fmt.{decimal}
use Rattle.std.specs.List.{flat_map}
use Rattle.pp_language.specs.Texts.{Text}
use Rattle.pp_language.specs.Printing.{joined}
use Rattle.pp_language.specs.Answers.{lines}

-- the number after x of a linear congruential generator
abbrev pub next_number : ℕ → ℕ
next_number x = (x * 1103515245 + 12345) % 2147483648

-- the k-th number of those that begin with n
abbrev pub number_at : ℕ → ℕ → ℕ
number_at n zero = n
number_at n (suc k) = next_number (number_at n k)

abbrev pub bit_of : ℕ → ℕ
bit_of x = (x / 65536) % 2

-- three bits, their sum and what is carried
abbrev pub add_line : ℕ → ℕ → ℕ → Text
add_line a b c =
    let ones = a + b + c in
    codes "add(" ++ joined (codes ",") (map decimal (a ∷ b ∷ c ∷ (ones % 2) ∷ (ones / 2) ∷ [])) ++ codes ")."

abbrev pub bits : List ℕ
bits = 0 ∷ 1 ∷ []

abbrev pub add_lines : List Text
add_lines = flat_map (λ a. flat_map (λ b. map (add_line a b) bits) bits) bits

abbrev pub six_line : ℕ → Text
six_line n = codes "six(" ++ decimal n ++ codes ")."

abbrev pub six_lines : List Text
six_lines = map six_line (0 ∷ 1 ∷ 2 ∷ 3 ∷ 4 ∷ 5 ∷ [])

abbrev pub four_line : Text
four_line = codes "four(P,Q,R,T) :- six(P), six(Q), P #\\= Q, six(R), P #\\= R, Q #\\= R, six(T), P #\\= T, Q #\\= T, R #\\= T."

abbrev pub numbered_name : Text → ℕ → Text
numbered_name name i = name ++ decimal i

-- the i-th adder of n, whose first input is the bit of the number 2i - 1 and whose sum is that of the number 2i
abbrev pub adder_line : ℕ → ℕ → Text
adder_line n i =
    numbered_name (codes "A") i ++ codes " = " ++ decimal (bit_of (number_at n (2 * i - 1))) ++ numbered_name (codes ", S") i ++ codes " = " ++ decimal (bit_of (number_at n (2 * i)))
    ++ numbered_name (codes ", add(A") i ++ numbered_name (codes ",B") i ++ numbered_name (codes ",C") i ++ numbered_name (codes ",S") i ++ numbered_name (codes ",C") (suc i)
    ++ codes ") infers most,"

-- the first so many adders of n
abbrev pub adder_lines : ℕ → ℕ → List Text
adder_lines n zero = []
adder_lines n (suc i) = adder_lines n i ++ adder_line n (suc i) ∷ []

-- the lines before the adders, and the adders with the last line
abbrev pub program_lines : List Text
program_lines = add_lines ++ six_lines ++ four_line ∷ []

abbrev pub query_lines : ℕ → List Text
query_lines n = codes "?- C1 = 0," ∷ adder_lines n n ++ codes "four(P,Q,R,T) infers most." ∷ []

abbrev pub make_lines : ℕ → List Text
make_lines n = program_lines ++ query_lines n

abbrev pub make_text : ℕ → Text
make_text n = lines (make_lines n)
