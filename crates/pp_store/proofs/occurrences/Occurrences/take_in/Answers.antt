use Rattle.std.proofs.Common.{◌≡◌, ◌<◌, [], ◌∷◌, length, get_or, take, arith, sym, ap, ◌∙◌}
use Rattle.std.specs.Prelude.{nat_eq}
use Rattle.std.proofs.lemmas.List.{take_more}
use Rattle.pp_algebra.specs.Canon.{firsts}
use Rattle.pp_row.proofs.Keys.{taken_number}
use Rattle.pp_row.proofs.Numbering.{firsts-append}
use Rattle.pp_store.proofs.Noting.{was_at}
use Rattle.pp_store.proofs.occurrences.Occurrences.take_in.Goals as goal

pub loop-number-preserved : goal.loop-number-preserved
loop-number-preserved c =
    let ks = get_or c.args.self.now c.args.variable [] in
    let k = c.loop-number.number-index in
    let same : c.as_slice-number-items.result.now ≡ ks = c.as_slice-number-items.ensures.keys ∙ was_at c.self.inside.sets.items (λ x. x.keys) c.args.self.now c.args.variable c.index.result.now c.self.view_is c.requires.within c.index.ensures in
    let l : k < length ks = omega (arith, c.loop-number-test.true, ap length same) in
    taken_number c.loop-number.numbers.keys c.insert.new.self.keys (get_or c.as_slice-number-items.result.now k 0) c.in_ok-insert.ensures.keys
    ∙ ap (λ xs. firsts nat_eq c.loop-number.numbers.keys (get_or xs k 0 ∷ [])) same
    ∙ ap (λ ns. firsts nat_eq ns (get_or ks k 0 ∷ [])) c.loop-number.invariant
    ∙ sym (firsts-append nat_eq c.args.numbers.now.keys (take k ks) (get_or ks k 0 ∷ []))
    ∙ ap (firsts nat_eq c.args.numbers.now.keys) (sym (take_more ks k 0 l))
