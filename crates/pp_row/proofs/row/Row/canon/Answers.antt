use Rattle.std.proofs.Common.{◌≡◌, ap, sym, ◌∙◌}
use Rattle.std.proofs.lemmas.Iterator.Adapters.{YieldsList-from_vec}
use Rattle.std.proofs.lemmas.Iterator.Consumers.{YieldsList-end}
use Rattle.std.specs.Prelude.{nat_eq}
use Rattle.pp_algebra.specs.Canon.{canon}
use Rattle.pp_row.specs.Columns.{pattern_by}
use Rattle.pp_row.proofs.Numbering.{names_push, columns_push, canon_now, canon_is_row}
use Rattle.pp_row.proofs.Keys.{map_same}
use Rattle.pp_row.proofs.row.Row.canon.Goals as goal

pub loop-column-preserved : goal.loop-column-preserved
loop-column-preserved c =
    let i = c.loop-column.invariant in record {
      names = c.in_ok-numbered-2.ensures.names ∙ rw i.names (sym (names_push c.loop-column.yielded c.in-Some.column));
      columns = rw c.in_ok-push.ensures.items (columns_push c.loop-column.yielded c.loop-column.numbered.items c.in-Some.column c.in_ok-numbered-2.field-0 c.loop-column.names.keys c.numbered.new.names.keys i.names i.columns c.in_ok-numbered-2.ensures.names c.in_ok-numbered-2.ensures.term);
    }

pub invariant_of-result : goal.invariant_of-result
invariant_of-result c =
    let i = c.loop-column.invariant in
    canon_is_row c.loop-column.yielded c.loop-column.numbered.items c.loop-column.names.keys c.args.domains.now c.in_ok-domains.domains.items i.names i.columns c.in_ok-domains.ensures c.requires.wide

pub returns : goal.returns
returns c =
    let i = c.loop-column.invariant in
    let all = YieldsList-end (YieldsList-from_vec {s = c.into_iter-column-iterator.result} c.args.columns.items (cc) (cc)) c.loop-column.yielded c.loop-column.column-iterator c.loop-column.yielded_by c.next.result c.next.new.self c.in-None.is c.next.ensures.steps in
    let y : c.loop-column.yielded ≡ c.args.columns.items = sym (map_same c.loop-column.yielded) ∙ all.0 in
    canon_now c.loop-column.yielded c.loop-column.numbered.items c.loop-column.names.keys c.args.domains.now c.in_ok-domains.domains.items i.names i.columns c.in_ok-domains.ensures ∙ ap (λ ts. canon nat_eq (pattern_by ts c.args.domains.now)) y
