-- Faces and stores to which a row was applied are rows, and how many columns they have.
use Rattle.std.proofs.Common.{◌≡◌, ℕ, Bool, ◌⊎◌, inl, inr, List, [], ◌∷◌, length, map, All, ◌∙◌}
use Rattle.std.specs.Prelude.{nat_eq}
use Rattle.std.proofs.Math.ListN.{length-map}
use Rattle.std.proofs.lemmas.List.Elements.{All-nil, All-cons}
use Rattle.pp_algebra.specs.Terms.{variable, count, put_all, variables_all}
use Rattle.pp_algebra.specs.Rows.{Domains, Pattern, Row, domain_at, IsWide, IsRow}
use Rattle.pp_algebra.specs.Canon.{firsts, place, canon, same_either}
use Rattle.pp_algebra.proofs.Put.{count-put_all}
use Rattle.pp_algebra.proofs.Resume.{wide_at}
use Rattle.pp_algebra.proofs.CanonLemmas.{IsSame, nat_eq-IsSame, canon-IsCanonical}
use Rattle.pp_sld.specs.Goals.{Goal}
use Rattle.pp_propagation.specs.Stores.{arguments_under, face, face_variables, either_domains, replaced_by, apply}
use Rattle.pp_algebra.specs.Numbered.{column}
pub use Rattle.pp_algebra.proofs.Solved.{same_either-IsSame}

all_wide : {V : Type 0} (ds : Domains V) → ((v : V) → IsWide (ds v)) → (vs : List V) → All IsWide (map ds vs)
all_wide ds h [] = All-nil IsWide
all_wide ds h (v ∷ vs) = All-cons IsWide (ds v) (map ds vs) (h v) (all_wide ds h vs)

-- the row of a pattern whose domains are wide
canon_is_row : {V : Type 0} (same : V → V → Bool) → IsSame same → (p : Pattern V) → ((v : V) → IsWide (p.domains v)) → IsRow (canon same p)
canon_is_row same s p h = record { canonical = canon-IsCanonical same s p; wide = all_wide p.domains h (firsts same [] (variables_all p.columns)) }

pub face_is_row : (store : Row) (g : Goal ℕ) → IsRow store → IsRow (face store g)
face_is_row store g h = canon_is_row nat_eq nat_eq-IsSame (record { columns = arguments_under store g; domains = domain_at store.domains }) (λ v. wide_at store.domains v h.wide)

either_wide : (store given : Row) → IsRow store → IsRow given → (x : ℕ ⊎ ℕ) → IsWide (either_domains (domain_at store.domains) (domain_at given.domains) x)
either_wide store given h k (inl v) = wide_at store.domains v h.wide
either_wide store given h k (inr w) = wide_at given.domains w k.wide

pub apply_is_row : (store : Row) (g : Goal ℕ) (given : Row) → IsRow store → IsRow given → IsRow (apply store g given)
apply_is_row store g given h k =
    canon_is_row same_either same_either-IsSame
    (record { columns = put_all (replaced_by given (face_variables store g)) store.columns; domains = either_domains (domain_at store.domains) (domain_at given.domains) })
    (either_wide store given h k)

pub face-count : (store : Row) (g : Goal ℕ) → count (face store g).columns ≡ count g.arguments
face-count store g = count-put_all (λ v. variable (place nat_eq (face_variables store g) v)) (arguments_under store g) ∙ count-put_all (column store.columns) g.arguments

pub face-variables : (store : Row) (g : Goal ℕ) → length (face store g).domains ≡ length (face_variables store g)
face-variables store g = length-map (face_variables store g) (domain_at store.domains)

pub apply-count : (store : Row) (g : Goal ℕ) (given : Row) → count (apply store g given).columns ≡ count store.columns
apply-count store g given = count-put_all _ _ ∙ count-put_all (replaced_by given (face_variables store g)) store.columns
