-- A clause whose first argument has another top leads nowhere.
use Rattle.std.proofs.Common.{◌≡◌, ℕ, suc, Bool, true, false, List, refl, ap, sym, ◌∙◌, inl, inr, true≢false}
use Rattle.pp_algebra.specs.Terms.{Tree, int, node, variable, Trees, none, more, put, put_all}
use Rattle.pp_algebra.proofs.Bools.{nat_same, int_same}
use Rattle.pp_algebra.proofs.Put.{count-put_all}
use Rattle.pp_sld.specs.Goals as goals
use Rattle.pp_sld.specs.Goals.{Config, Goal}
use Rattle.pp_sld.specs.Ways.{clause_way, IsDead}
use Rattle.pp_clause.specs.declared.first.First.{First}
use Rattle.pp_clause.specs.declared.first.First.TheVariants.{Int, Atom, Functor, Free}
use Rattle.pp_clause.specs.Firsts.{top, first_of, may_be}
use Rattle.pp_clause.specs.Laws.{IsSaid, LeftOutAreDead}

abbrev says : First → Bool
says (Int n) = true
says (Atom a) = true
says (Functor f k) = true
says Free = false

apart : {A : Type 0} (b : Bool) → b ≡ true → b ≡ false → A
apart b t f = absurd (true≢false (sym t ∙ f))

pub may_be-self : (f : First) → may_be f f ≡ true
may_be-self (Int n) = int_same n
may_be-self (Atom a) = nat_same a
may_be-self (Functor f k) = rw (nat_same f, nat_same k) refl
may_be-self Free = refl

says-left : (f g : First) → may_be f g ≡ false → says f ≡ true
says-left (Int n) g h = refl
says-left (Atom a) g h = refl
says-left (Functor f k) g h = refl
says-left Free g h = sym h

says-right : (f g : First) → may_be f g ≡ false → says g ≡ true
says-right (Int n) Free h = sym h
says-right (Atom a) Free h = sym h
says-right (Functor f k) Free h = sym h
says-right Free g h = apart true refl h
says-right f (Int n) h = refl
says-right f (Atom a) h = refl
says-right f (Functor g k) h = refl

-- a substitution keeps a top that says something
top-put : {V : Type 0} (s : V → Tree ℕ) (r : ℕ → V) (t : Tree ℕ) → says (top t) ≡ true → top (put s (put (λ v. variable (r v)) t)) ≡ top t
top-put s r (int n) h = refl
top-put s r (node f none) h = refl
top-put s r (node f (more t ts)) h = ap (λ k. Functor f (suc k)) (count-put_all s (put_all (λ v. variable (r v)) ts) ∙ count-put_all (λ v. variable (r v)) ts)
top-put s r (variable v) h = absurd (true≢false (sym h))

said_is : (f : First) (ts : Trees ℕ) → IsSaid f ts → says f ≡ true → first_of ts ≡ f
said_is (Int n) ts h s = h
said_is (Atom a) ts h s = h
said_is (Functor g k) ts h s = h
said_is Free ts h s = absurd (true≢false (sym s))

module _ (c : Config) (before : List (Goal ℕ)) (after : List (Goal ℕ)) (depth : ℕ) (f : First) where
  left_out : (shape : goals.Shape) (hs us : Trees ℕ) (body : List (Goal ℕ)) → first_of us ≡ f → may_be f (first_of hs) ≡ false
      → IsDead (clause_way c before (record { shape = shape; arguments = us }) after depth (record { head = hs; body = body }))
  left_out shape none us body e h q i m = apart (says Free) (says-right f Free h) refl
  left_out shape (more t ts) none body e h q i m = apart (says f) (says-left f (top t) h) (ap says (sym e))
  left_out shape (more t ts) (more u ws) body e h q i m =
      let one : top t ≡ top u = sym (top-put m.by inr t (says-right f (top t) h)) ∙ ap top m.holds.0 ∙ top-put m.by inl u (ap says e ∙ says-left f (top t) h) in
      apart (may_be f (top t)) (ap (may_be f) (one ∙ e) ∙ may_be-self f) h

pub left_out_are_dead : LeftOutAreDead
left_out_are_dead f c before g after depth cl said h =
    left_out c before after depth f g.shape cl.head g.arguments cl.body (said_is f g.arguments said (says-left f (first_of cl.head) h)) h
