-- The row of the end of a branch does not lie in the numbers of its variables.
use Rattle.std.proofs.Common.{◌≡◌, ℕ, List, [], map, refl, sym, ◌∙◌, subst}
use Rattle.std.specs.Prelude.{nat_eq}
use Rattle.pp_algebra.specs.Terms.{Tree, Trees, variable, put, put_all, variables, variables_all}
use Rattle.pp_algebra.specs.Rows.{Domains, Pattern, Row, domain_at, pattern_of, IsCanonical}
use Rattle.pp_algebra.specs.Covers.{IsIn, Covers}
use Rattle.pp_algebra.specs.Canon.{firsts, place, canon}
use Rattle.pp_algebra.specs.Stages.{pattern}
use Rattle.pp_algebra.proofs.Put.{put_all-put_all, put_all-variable}
use Rattle.pp_algebra.proofs.Order.{may_stay, covers_through, variables_all-put_all, IsIn-flat_map}
use Rattle.pp_algebra.proofs.Antisym.{put_all-agree, covers_antisymmetric}
use Rattle.pp_algebra.proofs.CanonLemmas.{nat_eq-IsSame, has-all, domain_at-place, canon-IsCanonical, canon-covers, covers-canon}
use Rattle.pp_algebra.proofs.Resume.{put_all-at}
use Rattle.pp_sld.specs.Goals.{Config, row_of}
use Rattle.pp_sld.specs.Leaves.{leaf_row}
use Rattle.pp_sld.proofs.Once.{same_config}
use Rattle.pp_moves.specs.Numbered.{terms_of, number_in, numbered}
use Rattle.pp_sld.proofs.Exists.{shapes-put}
use Rattle.pp_moves.proofs.Places.{in_columns, comes_all}
use Rattle.pp_moves.proofs.Moved.{row_numbered}

in_put : (s : ℕ → Tree ℕ) (ts : Trees ℕ) (v w : ℕ) → IsIn v (variables_all ts) → IsIn w (variables (s v)) → IsIn w (variables_all (put_all s ts))
in_put s ts v w i j = subst (IsIn w) (sym (variables_all-put_all s ts)) (IsIn-flat_map (λ x. variables (s x)) v w (variables_all ts) i j)

module _ (c : Config) where
  abbrev ts : Trees ℕ
  ts = terms_of c

  abbrev D : Domains ℕ
  D = domain_at c.domains

  abbrev vs : List ℕ
  vs = firsts nat_eq [] (variables_all ts)

  abbrev s : ℕ → Tree ℕ
  s = number_in c

  abbrev whole : Pattern ℕ
  whole = pattern ts D

  abbrev P : Pattern ℕ
  P = pattern c.columns D

  abbrev Q : Pattern ℕ
  Q = pattern (put_all s c.columns) (domain_at (map D vs))

  in_whole : (v : ℕ) → IsIn v (variables_all c.columns) → IsIn v (variables_all ts)
  in_whole v i = in_columns c.goals c.columns v i

  there : Covers P Q
  there = record { by = s; columns = refl; domains = λ v i. may_stay (domain_at (map D vs)) (place nat_eq vs v) (D v) (domain_at-place nat_eq nat_eq-IsSame D vs v (has-all nat_eq nat_eq-IsSame [] (variables_all ts) v (in_whole v i))) }

  abbrev back_all : Covers (pattern_of (canon nat_eq whole)) whole
  back_all = canon-covers nat_eq nat_eq-IsSame whole

  stays : (v : ℕ) → IsIn v (variables_all ts) → put (back_all).by (s v) ≡ variable v
  stays v i = put_all-at (λ x. put (back_all).by (s x)) variable ts (sym (put_all-put_all (back_all).by s ts) ∙ (back_all).columns ∙ sym (put_all-variable ts)) v i

  back : Covers Q P
  back = record {
    by = (back_all).by;
    columns = put_all-put_all (back_all).by s c.columns ∙ put_all-agree (λ v. put (back_all).by (s v)) variable c.columns (λ v i. stays v (in_whole v i)) ∙ put_all-variable c.columns;
    domains = λ k i. let f = comes_all s c.columns k i in (back_all).domains k (in_put s ts f.0 k (in_whole f.0 f.1) f.2);
  }

  pub leaf_numbered : canon nat_eq P ≡ leaf_row (numbered c)
  unfolding leaf_row
  leaf_numbered = covers_antisymmetric (canon nat_eq P) (canon nat_eq Q) (canon-IsCanonical nat_eq nat_eq-IsSame P) (canon-IsCanonical nat_eq nat_eq-IsSame Q)
      (covers_through (pattern_of (canon nat_eq P)) P (pattern_of (canon nat_eq Q)) (canon-covers nat_eq nat_eq-IsSame P) (covers_through P Q (pattern_of (canon nat_eq Q)) there (covers-canon nat_eq nat_eq-IsSame Q)))
      (covers_through (pattern_of (canon nat_eq Q)) Q (pattern_of (canon nat_eq P)) (canon-covers nat_eq nat_eq-IsSame Q) (covers_through Q P (pattern_of (canon nat_eq P)) back (covers-canon nat_eq nat_eq-IsSame P)))

-- ===== what is numbered already stays

canon_same : (r : Row) → IsCanonical r → canon nat_eq (pattern_of r) ≡ r
canon_same r c = sym (covers_antisymmetric r (canon nat_eq (pattern_of r)) c (canon-IsCanonical nat_eq nat_eq-IsSame (pattern_of r)) (covers-canon nat_eq nat_eq-IsSame (pattern_of r)) (canon-covers nat_eq nat_eq-IsSame (pattern_of r)))

pub numbered_same : (c : Config) → IsCanonical (row_of c) → numbered c ≡ c
numbered_same c h = same_config (numbered c) c (sym (row_numbered c) ∙ canon_same (row_of c) h) (shapes-put (number_in c) c.goals) refl
