use Rattle.std.proofs.Common.{[], map, ap, ◌∙◌, arith}
use Rattle.std.proofs.lemmas.List.{take_all}
use Rattle.pp_algebra.specs.Canon.{firsts}
use Rattle.pp_algebra.specs.Texts.{same_text}
use Rattle.pp_row.proofs.Keys.{firsts-distinct, firsts_more}
use Rattle.pp_term.proofs.names.Names.copy.Goals as goal
use Rattle.pp_algebra.proofs.SameText.{same_text-IsSame}

pub loop-text-preserved : goal.loop-text-preserved
loop-text-preserved c =
    firsts_more same_text (λ t. t.items) c.as_slice-text-items.result.now c.loop-text.text-index c.text-item.result c.loop-text.copy c.intern.new.self c.as_slice.result.now (omega arith) c.loop-text.invariant c.text-item.is c.as_slice.ensures.value c.in_ok-intern.ensures.names

pub returns : goal.returns
returns c =
    let texts = c.as_slice-text-items.ensures.keys in
    c.loop-text.invariant
    ∙ ap (λ ts. firsts same_text [] (map (λ t. t.items) ts)) (take_all c.loop-text.text-index c.as_slice-text-items.result.now (omega arith) ∙ texts)
    ∙ firsts-distinct same_text same_text-IsSame [] (map (λ t. t.items) c.self.inside.texts.keys) c.self.invariant.0
    ∙ c.self.view_is
