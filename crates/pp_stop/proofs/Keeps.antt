-- Each step on the stop word keeps its rule.
use Rattle.std.proofs.Common.{◌≡◌, ℕ, List, [], ◌∷◌, Bool, true, false, ◌||◌, refl, ap, subst, ⊎_elim, set}
use mathlib.Core.Option.{some, none}
use lib.ListN.{get_elem?}
use Rattle.std.specs.Prelude.{bit_or}
use Rattle.atomic_table.specs.Table.{State, Me, step, keeps, Allows, Splits}
use Rattle.atomic_table.proofs.Lists.{at_set, at_snoc}
use Rattle.pp_stop.specs.declared.view.View.{View}
use Rattle.pp_stop.specs.Words.{word_of, up_of, read_up}
use Rattle.pp_stop.specs.Views.{IsRaised, Knows, blank, after_load, after_raise, Loaded, Raised}

abbrev Rule : State (Unit {0}) View → Type 0
Rule s = IsRaised s.words s.views

abbrev All_know : Bool → Bool → List View → Type 0
All_know settled dry views = (id : ℕ) (v : View) → get_elem? views id ≡ some v → Knows settled dry v

know_set : (settled dry : Bool) (views : List View) (id : ℕ) (w : View) → Knows settled dry w → All_know settled dry views → All_know settled dry (set views id w)
know_set settled dry views id w mine others j v e = ⊎_elim (λ t. subst (Knows settled dry) t.1 mine) (λ t. others j v t.1) (at_set views id j w v e)

false_up : (b : Bool) → false ≡ true → b ≡ true
false_up b e = cc

-- what is up stays up where more is raised
or_up : (a b c : Bool) → (b ≡ true → c ≡ true) → (a || b) ≡ true → (a || c) ≡ true
or_up true b c f e = refl
or_up false b c f e = f e

up_or : (a b : Bool) → b ≡ true → (a || b) ≡ true
up_or true b e = refl
up_or false b e = e

or_two : (settled dry : Bool) → bit_or (word_of settled dry) 2 ≡ word_of settled true
or_two true true = refl
or_two true false = refl
or_two false true = refl
or_two false false = refl

or_one : (settled dry : Bool) → bit_or (word_of settled dry) 1 ≡ word_of true dry
or_one true true = refl
or_one true false = refl
or_one false true = refl
or_one false false = refl

pub loads : (slots id : ℕ) (me : Me (Unit {0}) View) → Allows Rule slots id me 0 (λ n. n) (Loaded (step slots 0 0 0 none) me)
loads slots id me s r _ at _ = (
  after_load me.0 r.settled r.dry,
  keeps,
  tt,
  record {
    settled = r.settled;
    dry = r.dry;
    word = rw r.word refl;
    known = know_set r.settled r.dry s.views id _ ((λ e. e), (λ e. e)) r.known;
  },
  (r.settled, r.dry, rw r.word refl, refl, r.known id me.0 at),
)

-- the views after a bit was raised
raised : (settled dry a b : Bool) (views : List View) (id : ℕ) (v : View) → All_know settled dry views → Knows settled dry v → All_know (a || settled) (b || dry) (set views id (after_raise v a b))
raised settled dry a b views id v all k = know_set (a || settled) (b || dry) views id (after_raise v a b)
    (or_up a v.settled settled k.0, or_up b v.dry dry k.1)
    (λ j u e. let m = all j u e in ((λ x. up_or a settled (m.0 x)), (λ x. up_or b dry (m.1 x))))

pub raises_settled : (slots id : ℕ) (me : Me (Unit {0}) View) → Allows Rule slots id me 0 (λ n. bit_or n 1) (λ _. Raised true false me)
raises_settled slots id me s r _ at _ = (
  after_raise me.0 true false,
  keeps,
  tt,
  record {
    settled = true;
    dry = r.dry;
    word = rw r.word (ap (λ n. n ∷ []) (or_one r.settled r.dry));
    known = raised r.settled r.dry true false s.views id me.0 r.known (r.known id me.0 at);
  },
  refl,
)

pub raises_dry : (slots id : ℕ) (me : Me (Unit {0}) View) → Allows Rule slots id me 0 (λ n. bit_or n 2) (λ _. Raised false true me)
raises_dry slots id me s r _ at _ = (
  after_raise me.0 false true,
  keeps,
  tt,
  record {
    settled = r.settled;
    dry = true;
    word = rw r.word (ap (λ n. n ∷ []) (or_two r.settled r.dry));
    known = raised r.settled r.dry false true s.views id me.0 r.known (r.known id me.0 at);
  },
  refl,
)

pub splits : (id : ℕ) (v : View) → Splits Rule id v v blank
splits id v s r at = record {
  settled = r.settled;
  dry = r.dry;
  word = r.word;
  known = λ j u e. ⊎_elim
      (λ old. know_set r.settled r.dry s.views id v (r.known id v at) r.known j u old)
      (λ new. subst (Knows r.settled r.dry) new (false_up r.settled, false_up r.dry))
      (at_snoc (set s.views id v) blank u j e);
}

-- a load that found a word answers as its bits say
pub read_word : (settled dry : Bool) → read_up (word_of settled dry) ≡ up_of settled dry
read_word true true = refl
read_word true false = refl
read_word false true = refl
read_word false false = refl
