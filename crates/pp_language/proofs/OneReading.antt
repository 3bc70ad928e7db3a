-- A text has one list of sentences and one ending.
use Rattle.std.proofs.Common.{◌≡◌, ℕ, ◌<◌, ◌≤◌, true, List, [], ◌∷◌, ◌++◌, length, refl, ap, sym, ◌∙◌, subst, ⊎_elim, arith}
use Rattle.std.proofs.lemmas.Bool.{cases_order}
use Rattle.pp_language.specs.declared.token.Kind.TheVariants.{Point}
use Rattle.pp_language.specs.declared.token.Token.{Token}
use Rattle.pp_language.specs.Texts.{Text, part}
use Rattle.pp_language.specs.Tokens.{clear, broken, gap_from, ends_gap, IsGap, IsLastGap, IsTokenOf, AreTokensOf, IsBadAfter}
use Rattle.pp_language.specs.Sentences.{Ending, clean, cut, bad, NoPoint, FallInto, EndsAs, AreSentences}
use Rattle.pp_language.proofs.Gaps.{gap_from-part}
use Rattle.pp_language.proofs.OneToken.{no_gap_past, same_token}

-- behind a gap from place i on no token begins
Stops : Text → ℕ → Type 0
Stops text i = (t : Token) → i ≤ t.first → IsGap (part text i t.first) → IsTokenOf text t → ⊥

no_last_gap_past : (text : Text) (i : ℕ) (t : Token) → i ≤ t.first → IsGap (part text i t.first) → IsTokenOf text t → IsLastGap (part text i (length text)) → ⊥
no_last_gap_past text i t l g k last =
    let e : gap_from clear (part text i (length text)) ≡ broken = no_gap_past text i (length text) t l g k (omega (arith, k.some, k.within)) in
    let f : ends_gap broken ≡ true = subst (λ h. ends_gap h ≡ true) e last in
    cc

no_bad_past : (text : Text) (i : ℕ) (t : Token) → i ≤ t.first → IsGap (part text i t.first) → IsTokenOf text t → IsBadAfter text i → ⊥
no_bad_past text i t l g k b = ⊎_elim
    (λ (e : b.place ≡ t.first). b.no_token t (sym e) k)
    (λ s. ⊎_elim
    (λ (low : b.place < t.first). b.no_gap t.first low (omega (arith, k.some, k.within)) (sym (gap_from-part text i b.place t.first b.before (omega arith) b.gap) ∙ g))
    (λ (low : t.first < b.place). let e = no_gap_past text i b.place t l g k low in let f = b.gap in cc)
    s)
    (cases_order b.place t.first)

stops : (text : Text) (i : ℕ) (left : List Token) (e : Ending) → EndsAs text i left e → Stops text i
unfolding Stops
stops text i left clean h t l g k = no_last_gap_past text i t l g k h.1
stops text i left cut h t l g k = no_last_gap_past text i t l g k h.1
stops text i left bad h t l g k = no_bad_past text i t l g k h

same_tokens : (text : Text) (i j k : ℕ) (ts us : List Token) → Stops text j → Stops text k → AreTokensOf text i ts j → AreTokensOf text i us k → (ts ≡ us) × (j ≡ k)
unfolding Stops
same_tokens text i j k [] [] sj sk h g = (refl, sym h ∙ g)
same_tokens text i j k [] (u ∷ us) sj sk h g = absurd (sj u (subst (λ n. n ≤ u.first) h g.0) (subst (λ n. IsGap (part text n u.first)) h g.1) g.2)
same_tokens text i j k (t ∷ ts) [] sj sk h g = absurd (sk t (subst (λ n. n ≤ t.first) g h.0) (subst (λ n. IsGap (part text n t.first)) g h.1) h.2)
same_tokens text i j k (t ∷ ts) (u ∷ us) sj sk h g =
    let e = same_token text i t u h.0 g.0 h.1 g.1 h.2 g.2 in
    let r = same_tokens text t.last j k ts us sj sk h.3 (subst (λ x. AreTokensOf text x.last us k) (sym e) g.3) in
    (ap (λ x. x ∷ ts) e ∙ ap (λ xs. u ∷ xs) r.0, r.1)

-- tokens before the first point
same_split : (s u : List Token) (p q : Token) (rest more : List Token) → p.kind ≡ Point → q.kind ≡ Point → NoPoint s → NoPoint u → s ++ p ∷ rest ≡ u ++ q ∷ more → (s ≡ u) × (rest ≡ more)
same_split [] [] p q rest more kp kq ns nu e = (refl, cc)
same_split [] (y ∷ u) p q rest more kp kq ns nu e = absurd (nu.0 (let f : p ≡ y = cc in sym (ap (λ x. x.kind) f) ∙ kp))
same_split (x ∷ s) [] p q rest more kp kq ns nu e = absurd (ns.0 (let f : x ≡ q = cc in ap (λ y. y.kind) f ∙ kq))
same_split (x ∷ s) (y ∷ u) p q rest more kp kq ns nu e =
    let f : x ≡ y = cc in
    let r = same_split s u p q rest more kp kq ns.1 nu.1 (cc) in
    (ap (λ z. z ∷ s) f ∙ ap (λ zs. y ∷ zs) r.0, r.1)

no_point_in : (s : List Token) (p : Token) (rest : List Token) → p.kind ≡ Point → NoPoint (s ++ p ∷ rest) → ⊥
no_point_in [] p rest k n = n.0 k
no_point_in (x ∷ s) p rest k n = no_point_in s p rest k n.1

same_sentences : (ts : List Token) (ss us : List (List Token)) (left more : List Token) → FallInto ts ss left → FallInto ts us more → (ss ≡ us) × (left ≡ more)
same_sentences ts [] [] left more f g = (refl, sym f.0 ∙ g.0)
same_sentences ts [] (u ∷ us) left more f g = absurd (no_point_in u g.0 g.2 g.1 (subst NoPoint (sym f.0 ∙ g.3) f.1))
same_sentences ts (s ∷ ss) [] left more f g = absurd (no_point_in s f.0 f.2 f.1 (subst NoPoint (sym g.0 ∙ f.3) g.1))
same_sentences ts (s ∷ ss) (u ∷ us) left more f g =
    let e = same_split s u f.0 g.0 f.2 g.2 f.1 g.1 f.4 g.4 (sym f.3 ∙ g.3) in
    let r = same_sentences f.2 ss us left more f.5 (subst (λ xs. FallInto xs us more) (sym e.1) g.5) in
    (ap (λ x. x ∷ ss) e.0 ∙ ap (λ xs. u ∷ xs) r.0, r.1)

last_gap_and_bad : (text : Text) (i : ℕ) → IsLastGap (part text i (length text)) → IsBadAfter text i → ⊥
last_gap_and_bad text i h b =
    b.no_last_gap (sym (ap ends_gap (gap_from-part text i b.place (length text) b.before (omega (arith, b.within)) b.gap)) ∙ h)

same_ending : (text : Text) (i : ℕ) (left : List Token) (e f : Ending) → EndsAs text i left e → EndsAs text i left f → e ≡ f
same_ending text i left clean clean h g = refl
same_ending text i left clean cut h g = absurd (g.0 h.0)
same_ending text i left clean bad h g = absurd (last_gap_and_bad text i h.1 g)
same_ending text i left cut clean h g = absurd (h.0 g.0)
same_ending text i left cut cut h g = refl
same_ending text i left cut bad h g = absurd (last_gap_and_bad text i h.1 g)
same_ending text i left bad clean h g = absurd (last_gap_and_bad text i g.1 h)
same_ending text i left bad cut h g = absurd (last_gap_and_bad text i g.1 h)
same_ending text i left bad bad h g = refl

pub one_reading : (text : Text) (ss us : List (List Token)) (e f : Ending) → AreSentences text ss e → AreSentences text us f → (ss ≡ us) × (e ≡ f)
one_reading text ss us e f h g =
    let t = same_tokens text 0 h.last g.last h.tokens g.tokens (stops text h.last h.left e h.ends) (stops text g.last g.left f g.ends) h.are_tokens g.are_tokens in
    let s = same_sentences g.tokens ss us h.left g.left (subst (λ xs. FallInto xs ss h.left) t.0 h.fall_into) g.fall_into in
    (s.0, same_ending text g.last g.left e f (subst (λ xs. EndsAs text g.last xs e) s.1 (subst (λ n. EndsAs text n h.left e) t.1 h.ends)) g.ends)

-- a text that ends behind its tokens has one list of them
pub one_list : (text : Text) (j k : ℕ) (ts us : List Token) → IsLastGap (part text j (length text)) → IsLastGap (part text k (length text)) → AreTokensOf text 0 ts j → AreTokensOf text 0 us k → ts ≡ us
one_list text j k ts us g h t u = (same_tokens text 0 j k ts us (stops text j [] clean (refl, g)) (stops text k [] clean (refl, h)) t u).0

-- a text that ends behind its tokens has no bad place
pub no_bad_end : (text : Text) (j k : ℕ) (ts us : List Token) → IsBadAfter text j → IsLastGap (part text k (length text)) → AreTokensOf text 0 ts j → AreTokensOf text 0 us k → ⊥
no_bad_end text j k ts us b g t u =
    let e = same_tokens text 0 j k ts us (stops text j [] bad b) (stops text k [] clean (refl, g)) t u in
    last_gap_and_bad text k g (subst (IsBadAfter text) e.1 b)
