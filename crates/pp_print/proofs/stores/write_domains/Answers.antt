use Rattle.std.proofs.Common.{ap, ◌∙◌}
use Rattle.pp_language.specs.Answers.{first_columns}
use Rattle.pp_print.proofs.StoreLines.{domains_written}
use Rattle.pp_print.proofs.stores.write_domains.Goals as goal

pub returns : goal.returns
returns c =
    let same = domains_written (first_columns c.args.count c.args.store.now.columns) c.first_columns-columns.result.now c.domains-domains.result.now c.args.store.now.domains c.in_ok-marks.marks.items c.domains-domains.ensures.domains
    (c.first_columns-columns.ensures ∙ ap (first_columns c.args.count) c.columns.ensures.columns) c.in_ok-marks.ensures in
    rw (c.deref.ensures.value, same) at c.write_marked.ensures
