-- The lines of the adders one after another, and the whole text.
use Rattle.std.proofs.Common.{◌≡◌, ℕ, suc, ◌+◌, ◌*◌, ◌-◌, List, [], ◌∷◌, ◌++◌, codes, refl, ap, sym, ◌∙◌, append_assoc, append-nil, add-one, arith}
use Rattle.std.specs.Fmt.{decimal}
use Rattle.std.proofs.lemmas.Grind.{flat_map-append}
use Rattle.pp_language.specs.Texts.{Text}
use Rattle.pp_language.specs.Answers.{line, lines}
use Rattle.pp_language.specs.Generator.{next_number, number_at, bit_of, numbered_name, adder_line, adder_lines, program_lines, make_text}
use Rattle.pp_make.specs.Adders.{adder_text}

-- three pieces are appended, one after another
pub three : (start a b c one two new : Text) → one ≡ start ++ a → two ≡ one ++ b → new ≡ two ++ c → new ≡ start ++ (a ++ b ++ c)
three start a b c one two new p q r = r ∙ ap (λ z. z ++ c) (q ∙ ap (λ z. z ++ b) p) ∙ ap (λ z. z ++ c) (append_assoc start a b) ∙ append_assoc start (a ++ b) c

odd : (n k : ℕ) → number_at n (2 * suc k - 1) ≡ next_number (number_at n (2 * k))
odd n k = let e : 2 * suc k - 1 ≡ suc (2 * k) = omega arith in ap (number_at n) e

even : (n k : ℕ) → number_at n (2 * suc k) ≡ next_number (next_number (number_at n (2 * k)))
even n k = let e : 2 * suc k ≡ suc (suc (2 * k)) = omega arith in ap (number_at n) e

pub later : (n k x a s : ℕ) → x ≡ number_at n (2 * k) → a ≡ next_number x → s ≡ next_number a → s ≡ number_at n (2 * (k + 1))
later n k x a s x-is a-is s-is = rw (add-one, even, s-is, a-is, x-is) refl

grouped : (a b c d e f g h i j k l : Text) → a ++ b ++ c ++ d ++ e ++ f ++ g ++ h ++ i ++ j ++ k ++ l ≡ (a ++ b ++ c ++ d ++ e ++ f) ++ (g ++ h ++ i) ++ (j ++ k ++ l)
grouped a b c d e f g h i j k l = simp append_assoc refl

parts : (n k : ℕ) → adder_line n (suc k) ≡ adder_text (suc k) (bit_of (number_at n (2 * suc k - 1))) (bit_of (number_at n (2 * suc k)))
parts n k =
    grouped (numbered_name (codes "A") (suc k)) (codes " = ") (decimal (bit_of (number_at n (2 * suc k - 1)))) (numbered_name (codes ", S") (suc k)) (codes " = ") (decimal (bit_of (number_at n (2 * suc k))))
    (numbered_name (codes ", add(A") (suc k)) (numbered_name (codes ",B") (suc k)) (numbered_name (codes ",C") (suc k)) (numbered_name (codes ",S") (suc k)) (numbered_name (codes ",C") (suc (suc k))) (codes ") infers most,")

of_bits : (n k x a s : ℕ) → x ≡ number_at n (2 * k) → a ≡ next_number x → s ≡ next_number a → adder_line n (suc k) ≡ adder_text (suc k) (bit_of a) (bit_of s)
of_bits n k x a s x-is a-is s-is =
    let input : number_at n (2 * suc k - 1) ≡ a = odd n k ∙ ap next_number (sym x-is) ∙ sym a-is in
    let sum : number_at n (2 * suc k) ≡ s = even n k ∙ ap (λ y. next_number (next_number y)) (sym x-is) ∙ ap next_number (sym a-is) ∙ sym s-is in
    parts n k ∙ ap (λ y. adder_text (suc k) (bit_of y) (bit_of (number_at n (2 * suc k)))) input ∙ ap (λ y. adder_text (suc k) (bit_of a) (bit_of y)) sum

lines-snoc : (ts : List Text) (t : Text) → lines (ts ++ t ∷ []) ≡ lines ts ++ line t
lines-snoc ts t = flat_map-append line ts (t ∷ []) ∙ ap (λ z. lines ts ++ z) (append-nil (line t))

pub one_more : (n k x a s : ℕ) (start out new : Text) → x ≡ number_at n (2 * k) → a ≡ next_number x → s ≡ next_number a → out ≡ start ++ lines (adder_lines n k)
    → new ≡ out ++ line (adder_text (k + 1) (bit_of a) (bit_of s)) → new ≡ start ++ lines (adder_lines n (k + 1))
one_more n k x a s start out new x-is a-is s-is written more =
    let here : new ≡ out ++ line (adder_text (suc k) (bit_of a) (bit_of s)) = rw add-one at more in
    rw add-one (
    here ∙ ap (λ z. z ++ line (adder_text (suc k) (bit_of a) (bit_of s))) written
    ∙ append_assoc start (lines (adder_lines n k)) (line (adder_text (suc k) (bit_of a) (bit_of s)))
    ∙ ap (λ z. start ++ (lines (adder_lines n k) ++ line z)) (sym (of_bits n k x a s x-is a-is s-is))
    ∙ ap (λ z. start ++ z) (sym (lines-snoc (adder_lines n k) (adder_line n (suc k)))))

-- the fixed lines before the adders
abbrev pub before : List Text
before = program_lines ++ codes "?- C1 = 0," ∷ []

abbrev last : Text
last = codes "four(P,Q,R,T) infers most."

lines_between : (front middle : List Text) (end : Text) → lines (front ++ (middle ++ end ∷ [])) ≡ lines front ++ lines middle ++ line end
lines_between front middle end = flat_map-append line front (middle ++ end ∷ []) ∙ ap (λ z. lines front ++ z) (lines-snoc middle end) ∙ sym (append_assoc (lines front) (lines middle) (line end))

pub whole : (n : ℕ) (begun middle : Text) → begun ≡ lines before → middle ≡ begun ++ lines (adder_lines n n) → middle ++ line last ≡ make_text n
whole n begun middle b m =
    ap (λ z. z ++ line last) (m ∙ ap (λ z. z ++ lines (adder_lines n n)) b) ∙ sym (lines_between before (adder_lines n n) last)
    ∙ ap lines (append_assoc program_lines (codes "?- C1 = 0," ∷ []) (adder_lines n n ++ last ∷ []))
