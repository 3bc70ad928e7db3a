-- Which tokens are a directive.
use Rattle.std.proofs.Common.{◌≡◌, ◌<◌, ◌≤◌, true, false, List, [], ◌∷◌, length, get_or, refl, ap, sym, ◌∙◌, arith}
use Rattle.std.specs.Prelude.{Bool, MatchBool, All, codes, slice_get}
use Rattle.std.proofs.lemmas.Option.{same_Some}
use Rattle.pp_language.specs.declared.token.Kind.{Kind}
use Rattle.pp_language.specs.declared.token.Kind.TheVariants.{Atom, Left, Right, Neck}
use Rattle.pp_language.specs.declared.token.Token.{Token}
use Rattle.pp_language.specs.Texts.{Text, part}
use Rattle.pp_algebra.specs.Texts.{same_text}
use Rattle.pp_language.specs.Kinds.{spells}
use Rattle.pp_language.specs.Tokens.{IsTokenOf}
use Rattle.pp_language.specs.Words.{Word, word, word_of, is_atom_kind}
use Rattle.pp_language.specs.Statements.{directive, Says}
use Rattle.pp_parse.specs.Words.{words_of}
use Rattle.pp_algebra.proofs.SameText.{same_text-is}

-- a token of a kind with one text is that word
fixed_word : (text : Text) (t : Token) (k : Kind) (bs : Text) → IsTokenOf text t → t.kind ≡ k → ((cs : Text) → spells k cs ≡ same_text cs bs) → word_of text t ≡ word k bs
fixed_word text t k bs h e f =
    let cs = part text t.first t.last in
    let s : same_text cs bs ≡ true = sym (f cs) ∙ ap (λ x. spells x cs) (sym e) ∙ h.spelled in
    ap (λ x. word x cs) e ∙ ap (word k) (same_text-is cs bs s)

atom_word : (text : Text) (t : Token) → t.kind ≡ Atom → same_text (part text t.first t.last) (codes "lib") ≡ true → word_of text t ≡ word Atom (codes "lib")
atom_word text t e h = ap (λ x. word x (part text t.first t.last)) e ∙ ap (word Atom) (same_text-is (part text t.first t.last) (codes "lib") h)

module _ (text : Text) (d : Token) where
  says_directive : (ts : List Token) → 5 ≤ length ts → length ts < 6 → All (IsTokenOf text) ts → (get_or ts 0 d).kind ≡ Neck → (get_or ts 1 d).kind ≡ Atom → (get_or ts 2 d).kind ≡ Left → (get_or ts 3 d).kind ≡ Atom → (get_or ts 4 d).kind ≡ Right
      → same_text (part text (get_or ts 1 d).first (get_or ts 1 d).last) (codes "lib") ≡ true → (w : Word) × Says (words_of text ts) (directive w)
  says_directive (neck ∷ lib ∷ left ∷ name ∷ right ∷ []) l m h e0 e1 e2 e3 e4 s =
      let a = fixed_word text neck Neck (codes ":-") (h 0 d (omega arith)) e0 (λ cs. refl) in
      let b = atom_word text lib e1 s in
      let c = fixed_word text left Left (codes "(") (h 2 d (omega arith)) e2 (λ cs. refl) in
      let r = fixed_word text right Right (codes ")") (h 4 d (omega arith)) e4 (λ cs. refl) in
      (word_of text name, record { words = cc; is_statement = ap is_atom_kind e3 })
  says_directive [] l m h e0 e1 e2 e3 e4 s = absurd (omega arith)
  says_directive (t0 ∷ []) l m h e0 e1 e2 e3 e4 s = absurd (omega arith)
  says_directive (t0 ∷ t1 ∷ []) l m h e0 e1 e2 e3 e4 s = absurd (omega arith)
  says_directive (t0 ∷ t1 ∷ t2 ∷ []) l m h e0 e1 e2 e3 e4 s = absurd (omega arith)
  says_directive (t0 ∷ t1 ∷ t2 ∷ t3 ∷ []) l m h e0 e1 e2 e3 e4 s = absurd (omega arith)
  says_directive (t0 ∷ t1 ∷ t2 ∷ t3 ∷ t4 ∷ t5 ∷ ts) l m h e0 e1 e2 e3 e4 s = absurd (omega arith)

  -- the second token is `lib`
  second_is : (ts : List Token) → 5 ≤ length ts → (w : Word) → Says (words_of text ts) (directive w) → same_text (part text (get_or ts 1 d).first (get_or ts 1 d).last) (codes "lib") ≡ true
  second_is [] l w h = absurd (omega arith)
  second_is (t0 ∷ []) l w h = absurd (omega arith)
  second_is (t0 ∷ t1 ∷ ts) l w h =
      let e : word_of text t1 ≡ word Atom (codes "lib") = same_Some (word_of text t1) (word Atom (codes "lib")) (ap (λ ws. slice_get ws 1) h.words) in
      ap (λ (x : Word). same_text x.text (codes "lib")) e

  pub directive_told : (ts : List Token) (r : Bool) → 5 ≤ length ts → length ts < 6 → All (IsTokenOf text) ts → (get_or ts 0 d).kind ≡ Neck → (get_or ts 1 d).kind ≡ Atom → (get_or ts 2 d).kind ≡ Left → (get_or ts 3 d).kind ≡ Atom → (get_or ts 4 d).kind ≡ Right
      → r ≡ same_text (part text (get_or ts 1 d).first (get_or ts 1 d).last) (codes "lib")
      → MatchBool r ((w : Word) × Says (words_of text ts) (directive w)) ((w : Word) → Says (words_of text ts) (directive w) → ⊥)
  directive_told ts true l m h e0 e1 e2 e3 e4 s = says_directive ts l m h e0 e1 e2 e3 e4 (sym s)
  directive_told ts false l m h e0 e1 e2 e3 e4 s = λ w k. let e = second_is ts l w k in absurd (cc (s, e))
