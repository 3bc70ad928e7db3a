use Rattle.std.proofs.Common.{◌<◌, length, arith, sym, ap, ◌∙◌, subst}
use Rattle.pp_algebra.specs.Covers.{IsIn}
use Rattle.pp_algebra.specs.Rows.{AreWide}
use Rattle.pp_algebra.specs.Terms.{count, variables, variables_all}
use Rattle.pp_row.specs.Columns.{trees_of, sets_of}
use Rattle.pp_store.specs.Patterns.{column_at}
use Rattle.pp_store.proofs.Opening.{below_row, opened_row}
use Rattle.pp_store.proofs.pattern.Pattern.new.Goals as goal
use Rattle.pp_row.proofs.ColumnLists.{count-trees_of}

pub places_of-requires : goal.places_of-requires
places_of-requires c =
    let cs = ap (λ ts. trees_of ts) c.in_ok-columns.ensures ∙ c.columns.ensures.columns in
    let ds = ap (λ xs. sets_of xs) c.in_ok-domains.ensures ∙ c.domains.ensures.domains in
    record { below = λ v i. (let l = below_row c.args.row.now c.columns.ensures.row c.in_ok-columns.columns.items c.in_ok-domains.domains.items cs ds v (subst (λ ts. IsIn v (variables_all (trees_of ts))) c.deref.ensures.value i) in omega (arith, l, c.len.ensures)) }

pub returns-clause-sound : goal.returns-clause-sound
returns-clause-sound c =
    let cs = ap (λ ts. trees_of ts) c.in_ok-columns.ensures ∙ c.columns.ensures.columns in
    let ds = ap (λ xs. sets_of xs) c.in_ok-domains.ensures ∙ c.domains.ensures.domains in
    record {
      below = λ v i. below_row c.args.row.now c.columns.ensures.row c.in_ok-columns.columns.items c.in_ok-domains.domains.items cs ds v i;
      wide = subst AreWide (sym ds) c.domains.ensures.row.wide;
      count = omega (arith, c.in_ok-places.ensures.count, c.len.ensures);
      placed = λ k v l i. c.in_ok-places.ensures.placed k v (subst (λ ts. k < length ts) (sym c.deref.ensures.value) l) (subst (λ ts. IsIn v (variables (column_at ts k))) (sym c.deref.ensures.value) i);
      within = λ v k s. subst (λ ts. k < length ts) c.deref.ensures.value (c.in_ok-places.ensures.within v k s);
    }

pub returns-clause-row : goal.returns-clause-row
returns-clause-row c = opened_row (record { alloc = c.args.alloc; columns = c.in_ok-columns.columns; domains = c.in_ok-domains.domains; places = c.in_ok-places.places }) c.args.row.now c.columns.ensures.row (ap (λ ts. trees_of ts) c.in_ok-columns.ensures ∙ c.columns.ensures.columns) (ap (λ xs. sets_of xs) c.in_ok-domains.ensures ∙ c.domains.ensures.domains)

pub returns-clause-count : goal.returns-clause-count
returns-clause-count c = sym (count-trees_of c.in_ok-columns.columns.items) ∙ ap (λ ts. count ts) (ap (λ ts. trees_of ts) c.in_ok-columns.ensures ∙ c.columns.ensures.columns)
