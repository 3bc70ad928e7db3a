use Rattle.std.proofs.Common.{◌∷◌, ◌++◌, [], map, take, ap, sym, ◌∙◌, arith}
use Rattle.std.proofs.lemmas.List.{take_more, map_push}
use Rattle.pp_algebra.specs.Numbered.{counted_from}
use Rattle.pp_clause.proofs.Counting.{fits_at}
use Rattle.pp_clause.proofs.fresh.fresh_terms.Goals as goal

pub shifted-requires : goal.shifted-requires
shifted-requires c = record { fits = fits_at c.args.terms.now c.loop-term.term-index c.term-item.result c.args.vars c.args.from (omega arith) c.term-item.is c.requires.below c.requires.fits }

pub loop-term-preserved : goal.loop-term-preserved
loop-term-preserved c =
    let ts = c.args.terms.now in
    let i = c.loop-term.term-index in
    let t = c.term-item.result in
    let f = counted_from c.args.from in
    c.in_ok-push.ensures.items
    ∙ ap (λ x. c.loop-term.fresh.items ++ x ∷ []) c.in_ok-shifted.ensures
    ∙ ap (λ x. x ++ f t ∷ []) c.loop-term.invariant
    ∙ sym (map_push f (take i ts) t)
    ∙ ap (map f) (ap (λ x. take i ts ++ x ∷ []) c.term-item.is ∙ sym (take_more ts i t (omega arith)))
