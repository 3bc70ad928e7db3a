-- What a store's pattern says of the store.
use Rattle.std.proofs.Common.{◌≡◌, ℕ, ◌<◌, length, ap, sym, ◌∙◌, subst, arith}
use Rattle.std.specs.Prelude.{nat_eq}
use Rattle.pp_algebra.specs.Terms.{put_all, variables, variables_all, count}
use Rattle.pp_algebra.specs.Rows.{Row, IsWide, domain_at}
use Rattle.pp_algebra.specs.Covers.{IsIn}
use Rattle.pp_algebra.specs.Canon.{canon}
use Rattle.pp_algebra.specs.Numbered.{column}
use Rattle.pp_algebra.proofs.Put.{count-put_all}
use Rattle.pp_algebra.proofs.Resume.{wide_at}
use Rattle.pp_sld.specs.Goals.{Goal}
use Rattle.pp_propagation.specs.Stores.{face}
use Rattle.pp_row.specs.Columns.{trees_of, sets_of}
use Rattle.pp_term.specs.declared.query.Query.{Query}
use Rattle.pp_store.specs.declared.pattern.Pattern.{Pattern}
use Rattle.pp_store.specs.Kept.{Kept, IsStoreOf}
use Rattle.pp_store.specs.Patterns.{column_at, row_in, IsSound, IsAsBefore}
use Rattle.pp_store.proofs.Lists.{each_wide}
use Rattle.pp_store.proofs.Making.{same_canon}
use Rattle.pp_row.proofs.ColumnLists.{count-trees_of}

pub row-count : (p : Pattern) → count (row_in p).columns ≡ length p.columns.items
row-count p = count-put_all _ (trees_of p.columns.items) ∙ count-trees_of p.columns.items

pub store_long : (q : Query) (k : Kept) (p : Pattern) → record { row = row_in p } ≡ k → IsStoreOf q k → length p.columns.items ≡ q.vars
store_long q k p e h = sym (row-count p) ∙ ap (λ (x : Kept). count x.row.columns) e ∙ h

-- a face is that of the arguments
pub face_args : (r : Row) (g h : Goal ℕ) → g.arguments ≡ h.arguments → face r g ≡ face r h
face_args r g h e = ap (λ ts. canon nat_eq (record { columns = put_all (column r.columns) ts; domains = domain_at r.domains })) e

module _ (p q : Pattern) (sound : IsSound p) (h : IsAsBefore p q) where
  pub row_stays : row_in q ≡ row_in p
  row_stays =
      ap (λ ts. canon nat_eq (record { columns = trees_of ts; domains = domain_at (sets_of q.domains.items) })) h.columns
      ∙ same_canon (domain_at (sets_of q.domains.items)) (domain_at (sets_of p.domains.items)) (trees_of p.columns.items) (λ v i. h.domains.same v)

  pub stays_sound : IsSound q
  stays_sound = record {
    below = λ v i. (let l = sound.below v (subst (λ ts. IsIn v (variables_all (trees_of ts))) h.columns i) in omega (arith, l, h.domains.count));
    wide = each_wide (sets_of q.domains.items) (λ v l. subst IsWide (sym (h.domains.same v)) (wide_at (sets_of p.domains.items) v sound.wide));
    count = h.known;
    placed = λ k v l i. h.stays v k (sound.placed k v (subst (λ ts. k < length ts) h.columns l) (subst (λ ts. IsIn v (variables (column_at ts k))) h.columns i));
    within = λ v k s. subst (λ ts. k < length ts) (sym h.columns) (h.only v k s);
  }
