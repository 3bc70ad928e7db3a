-- What is known of a first argument holds under every substitution, and arguments that are apart stay so.
use Rattle.std.proofs.Common.{◌≡◌, ℕ, zero, suc, List, refl, ap, sym, subst}
use Rattle.pp_algebra.specs.Terms.{Tree, int, node, variable, Trees, none, more, put_all}
use Rattle.pp_algebra.proofs.Put.{count-put_all}
use Rattle.pp_clause.specs.declared.first.First.{First}
use Rattle.pp_clause.specs.declared.first.First.TheVariants.{Functor}
use Rattle.pp_clause.specs.Firsts.{first_of, top}
use Rattle.pp_clause.specs.Laws.{IsSaid}
use Rattle.pp_clause.proofs.Dead.{left_out_are_dead}
use Rattle.pp_goal.specs.Apart.{AreApartAt}
use Rattle.pp_sld.specs.Goals.{Config, Goal, Shape}
use Rattle.pp_sld.specs.Ways.{clause_way, IsDead}

pub said_put : (s : ℕ → Tree ℕ) (f : First) (ts : Trees ℕ) → f ≡ first_of ts → IsSaid f (put_all s ts)
said_put s f none e = subst (λ x. IsSaid x none) (sym e) tt
said_put s f (more (int n) ts) e = subst (λ x. IsSaid x (put_all s (more (int n) ts))) (sym e) refl
said_put s f (more (node a none) ts) e = subst (λ x. IsSaid x (put_all s (more (node a none) ts))) (sym e) refl
said_put s f (more (node a (more u us)) ts) e = subst (λ x. IsSaid x (put_all s (more (node a (more u us)) ts))) (sym e) (ap (Functor a) (count-put_all s (more u us)))
said_put s f (more (variable v) ts) e = subst (λ x. IsSaid x (put_all s (more (variable v) ts))) (sym e) tt

-- a clause with an argument of another top is dead: the equations from there on have no solution
module _ (c : Config) (before after : List (Goal ℕ)) (depth : ℕ) (s : ℕ → Tree ℕ) (shape : Shape) (body : List (Goal ℕ)) where
  pub apart_dead : (k : ℕ) (us hs : Trees ℕ) → AreApartAt k us hs → IsDead (clause_way c before (record { shape = shape; arguments = put_all s us }) after depth (record { head = hs; body = body }))
  apart_dead k none hs h q i m = absurd h
  apart_dead k (more u us) none h q i m = absurd h
  apart_dead zero (more u us) (more t ts) h q i m =
      left_out_are_dead (top u) c before (record { shape = shape; arguments = put_all s (more u us) }) after depth (record { head = more t ts; body = body }) (said_put s (top u) (more u us) refl) h q i m
  apart_dead (suc k) (more u us) (more t ts) h q i m =
      apart_dead k us ts h q i (record { by = m.by; columns = m.columns; domains = m.domains; holds = m.holds.1 })
