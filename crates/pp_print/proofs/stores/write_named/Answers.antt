use Rattle.std.proofs.Common.{◌≡◌, ◌++◌, ap, sym, ◌∙◌, append-nil}
use Rattle.std.specs.Slice.Iter.{iter_rest}
use Rattle.std.specs.Iterator.Adapters.{zip_first, zip_second}
use Rattle.std.proofs.lemmas.Slice.Zip.{either_empty_from_Zip}
use Rattle.pp_print.proofs.StoreLines.{no_named_lines}
use Rattle.pp_print.proofs.stores.write_named.Goals as goal

pub returns : goal.returns
returns c =
    let empty = either_empty_from_Zip c.loop-name.name-iterator c.next.new.self c.next.result c.in-None.is c.next.ensures.steps in
    let none = no_named_lines c.args.names.now (iter_rest (zip_first c.loop-name.name-iterator)) (iter_rest (zip_second c.loop-name.name-iterator)) empty in
    let first : iter_rest (zip_first c.into_iter-name-iterator.result) ≡ c.args.named.now = ap (λ z. iter_rest (zip_first z)) c.into_iter-name-iterator.ensures.into_iter_gives ∙ ap iter_rest c.zip-name-items.ensures.first ∙ c.iter.ensures.rest in
    let second : iter_rest (zip_second c.into_iter-name-iterator.result) ≡ c.args.columns.now = ap (λ z. iter_rest (zip_second z)) c.into_iter-name-iterator.ensures.into_iter_gives ∙ c.zip-name-items.ensures.second.0 in
    sym (append-nil c.loop-name.out.items) ∙ ap (λ t. c.loop-name.out.items ++ t) (sym none) ∙ (rw (first, second) at c.loop-name.invariant)
