-- What solving items gives: a substitution with domains, or that nothing fits.
use Rattle.std.proofs.Common.{◌≡◌, ℕ, true, false, Bool, List, [], ◌∷◌, map, Option, Some, refl, ap, sym, ◌∙◌, subst, ◌⊎◌, inl, inr}
use Rattle.std.specs.Prelude.{cond}
use Rattle.pp_algebra.specs.Terms.{Tree, variable, put, variables}
use Rattle.pp_algebra.specs.Rows.{Domain, Domains}
use Rattle.pp_algebra.specs.Covers.{MayGo, IsIn}
use Rattle.pp_algebra.specs.Solve.{Item, equation, membership, Holds, AllHold}
use Rattle.pp_algebra.specs.Rows.{IsWide}
use Rattle.pp_algebra.specs.Solve.{put_item}
use Rattle.pp_algebra.proofs.Put.{put-put}
use Rattle.pp_algebra.proofs.Antisym.{put-agree}
use Rattle.pp_algebra.proofs.CanonLemmas.{IsSame}

-- functions that agree everywhere are equal
pub everywhere : {A B : Type 0} (f g : A → B) → ((a : A) → f a ≡ g a) → f ≡ g
everywhere f g h = λ i. λ a. h a i

abbrev pub AllWide : {V : Type 0} → Domains V → Type 0
AllWide ds = (v : _) → IsWide (ds v)

-- each variable goes where its domain lets it
abbrev pub Good : {V : Type 0} → Domains ℕ → Domains V → (V → Tree ℕ) → Type 0
Good q ds b = (v : _) → MayGo q (ds v) (b v)

abbrev pub Fits : {V : Type 0} → Domains ℕ → Domains V → List (Item V) → (V → Tree ℕ) → Type 0
Fits q ds items b = Good q ds b × AllHold q b items

-- what fits the items is what fits these domains, through the substitution
pub record Solution {V : Type 0} (ds : Domains V) (items : List (Item V)) : Type 0 where
  pub by : V → Tree V
  pub domains : Domains V
  pub wide : AllWide domains
  pub sound : (q : Domains ℕ) (b : V → Tree ℕ) → Good q domains b → Fits q ds items (λ v. put b (by v))
  pub complete : (q : Domains ℕ) (b : V → Tree ℕ) → AllWide q → Fits q ds items b → ((v : V) → put b (by v) ≡ b v) × Good q domains b

abbrev pub Nothing : {V : Type 0} → Domains V → List (Item V) → Type 0
Nothing {V} ds items = (q : Domains ℕ) (b : V → Tree ℕ) → AllWide q → Fits q ds items b → ⊥

abbrev pub Result : {V : Type 0} → Domains V → List (Item V) → Type 0
Result ds items = Solution ds items ⊎ Nothing ds items

pub nothing_left : {V : Type 0} (ds : Domains V) → AllWide ds → Result ds []
nothing_left ds w = inl (record { by = variable; domains = ds; wide = w; sound = λ q b g. (g, tt); complete = λ q b n f. ((λ v. refl), f.0) })

-- one step: what fits after it, through a substitution, fits before, and the other way round
pub step : {V : Type 0} (s : V → Tree V) (ds es : Domains V) (is js : List (Item V))
    → ((q : Domains ℕ) (b : V → Tree ℕ) → Fits q es js b → Fits q ds is (λ v. put b (s v)))
    → ((q : Domains ℕ) (b : V → Tree ℕ) → AllWide q → Fits q ds is b → ((v : V) → put b (s v) ≡ b v) × Fits q es js b)
    → Result es js → Result ds is
step s ds es is js back on (inl a) = inl (record {
  by = λ v. put a.by (s v);
  domains = a.domains;
  wide = a.wide;
  sound = λ q b g. subst (Fits q ds is) (everywhere (λ v. put (λ w. put b (a.by w)) (s v)) (λ v. put b (put a.by (s v))) (λ v. sym (put-put b a.by (s v)))) (back q (λ v. put b (a.by v)) (a.sound q b g));
  complete = λ q b n f.
      let o = on q b n f in
      let c = a.complete q b n o.1 in
      ((λ v. put-put b a.by (s v) ∙ put-agree (λ w. put b (a.by w)) b (s v) (λ w i. c.0 w) ∙ o.0 v), c.1);
})
step s ds es is js back on (inr n) = inr (λ q b w f. n q b w (on q b w f).1)

-- the same with no substitution
pub same_step : {V : Type 0} (ds es : Domains V) (is js : List (Item V))
    → ((q : Domains ℕ) (b : V → Tree ℕ) → Fits q es js b → Fits q ds is b)
    → ((q : Domains ℕ) (b : V → Tree ℕ) → AllWide q → Fits q ds is b → Fits q es js b)
    → Result es js → Result ds is
same_step ds es is js back on r = step variable ds es is js back (λ q b w f. ((λ v. refl), on q b w f)) r

module _ {V : Type 0} (same : V → V → Bool) where
  -- t for x
  abbrev pub single : V → Tree V → V → Tree V
  single x t v = cond (same v x) t (variable v)

  abbrev pub with_domain : V → Option Domain → Domains V → Domains V
  with_domain x d ds v = cond (same v x) d (ds v)

  pub single-agrees : IsSame same → {W : Type 0} (b : V → Tree W) (x : V) (t : Tree V) (v : V) → b x ≡ put b t → put b (single x t v) ≡ b v
  single-agrees s b x t v h = go (same v x) refl
    where
      go : (c : Bool) → same v x ≡ c → put b (cond c t (variable v)) ≡ b v
      go true e = sym h ∙ ap b (sym (s.is v x e))
      go false e = refl

  -- x is not among the variables of t
  abbrev pub IsApart : V → Tree V → Type 0
  IsApart x t = (v : V) → IsIn v (variables t) → same v x ≡ false

  pub single-leaves : (x : V) (t a : Tree V) → IsApart x a → {W : Type 0} (b : V → Tree W) → put b a ≡ put (λ v. put b (single x t v)) a
  single-leaves x t a h b = put-agree b (λ v. put b (single x t v)) a (λ v i. sym (ap (λ c. put b (cond c t (variable v))) (h v i)))

-- items under a substitution
pub hold-put : {V : Type 0} (q : Domains ℕ) (b : V → Tree ℕ) (s : V → Tree V) (is : List (Item V)) → AllHold q b (map (put_item s) is) → AllHold q (λ v. put b (s v)) is
hold-put q b s [] h = tt
hold-put q b s (equation x y ∷ is) h = (sym (put-put b s x) ∙ h.0 ∙ put-put b s y, hold-put q b s is h.1)
hold-put q b s (membership t d ∷ is) h = (subst (MayGo q (Some d)) (put-put b s t) h.0, hold-put q b s is h.1)

pub put-hold : {V : Type 0} (q : Domains ℕ) (b : V → Tree ℕ) (s : V → Tree V) (is : List (Item V)) → AllHold q (λ v. put b (s v)) is → AllHold q b (map (put_item s) is)
put-hold q b s [] h = tt
put-hold q b s (equation x y ∷ is) h = (put-put b s x ∙ h.0 ∙ sym (put-put b s y), put-hold q b s is h.1)
put-hold q b s (membership t d ∷ is) h = (subst (MayGo q (Some d)) (sym (put-put b s t)) h.0, put-hold q b s is h.1)

-- x gives way to t, by the first item
pub eliminate : {V : Type 0} (same : V → V → Bool) → IsSame same → (x : V) (t : Tree V) (ds es : Domains V) (i : Item V) (is : List (Item V))
    → IsApart same x t
    → ((q : Domains ℕ) (b : V → Tree ℕ) → Good q es b → MayGo q (es x) (put b t))
    → ((q : Domains ℕ) (b : V → Tree ℕ) → Good q es b → b x ≡ put b t → Good q ds b × Holds q b i)
    → ((q : Domains ℕ) (b : V → Tree ℕ) → AllWide q → Good q ds b → Holds q b i → (b x ≡ put b t) × Good q es b)
    → Result es (map (put_item (single same x t)) is) → Result ds (i ∷ is)
eliminate {V} same s x t ds es i is apart goes back on r =
    step (single same x t) ds es (i ∷ is) (map (put_item (single same x t)) is)
    (λ q b f.
    let c : V → Tree ℕ = λ v. put b (single same x t v) in
    let e : c x ≡ put c t = ap (λ z. put b (cond z t (variable x))) (s.itself x) ∙ single-leaves same x t t apart b in
    let g = back q c (λ v. still q b f.0 v (same v x) refl) e in
    (g.0, (g.1, hold-put q b (single same x t) is f.1)))
    (λ q b w f.
    let g = on q b w f.0 f.1.0 in
    let a : (v : V) → put b (single same x t v) ≡ b v = λ v. single-agrees same s b x t v g.0 in
    (a, (g.1, put-hold q b (single same x t) is (subst (λ c. AllHold q c is) (everywhere b (λ v. put b (single same x t v)) (λ v. sym (a v))) f.1.1))))
    r
  where
    still : (q : Domains ℕ) (b : V → Tree ℕ) → Good q es b → (v : V) (c : Bool) → same v x ≡ c → MayGo q (es v) (put b (cond c t (variable v)))
    still q b g v true e = subst (λ y. MayGo q (es y) (put b t)) (sym (s.is v x e)) (goes q b g)
    still q b g v false e = g v
