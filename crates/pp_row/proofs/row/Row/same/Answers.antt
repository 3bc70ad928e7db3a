use Rattle.std.proofs.Common.{◌≡◌, true, ap, sym, ◌∙◌}
use Rattle.pp_row.specs.Columns.{sets_of}
use Rattle.pp_row.proofs.ColumnLists.{same_rows, rows_from}
use Rattle.pp_row.proofs.row.Row.same.Goals as goal

pub returns-else-same_terms : goal.returns-else-same_terms
returns-else-same_terms c = (
  λ h. absurd (cc),
  λ h.
      let s = same_rows c.self.inside.columns.items c.other.inside.columns.items c.self.inside.domains.items c.other.inside.domains.items (c.self.view_is ∙ h ∙ sym c.other.view_is) in
      let t : c.same_terms.result ≡ true = c.same_terms.ensures.1 (c.as_slice.ensures.value ∙ s.0 ∙ sym c.as_slice-2.ensures.value) in
      absurd (cc),
)

pub returns-then-same_terms : goal.returns-then-same_terms
returns-then-same_terms c =
    let left = c.as_slice-then-same_terms.ensures.value in
    let right = c.as_slice-then-same_terms-2.ensures.value in
    let terms = sym c.as_slice.ensures.value ∙ c.same_terms.ensures.0 c.if-same_terms.true ∙ c.as_slice-2.ensures.value in (
      λ h.
          let sets = sym (ap sets_of left) ∙ c.same_domains.ensures.0 h ∙ ap sets_of right in
          sym c.self.view_is ∙ rows_from c.self.inside.columns.items c.other.inside.columns.items c.self.inside.domains.items c.other.inside.domains.items terms sets ∙ c.other.view_is,
      λ h.
          let s = same_rows c.self.inside.columns.items c.other.inside.columns.items c.self.inside.domains.items c.other.inside.domains.items (c.self.view_is ∙ h ∙ sym c.other.view_is) in
          c.same_domains.ensures.1 (ap sets_of left ∙ s.1 ∙ sym (ap sets_of right)),
    )
