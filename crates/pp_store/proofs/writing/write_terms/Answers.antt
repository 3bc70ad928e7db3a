use Rattle.std.proofs.Common.{◌≡◌, ◌<◌, length, get_or, set, pos, arith, ap, ◌∙◌}
use Rattle.std.proofs.lemmas.List.{length-set, get_or-set_same, get_or-set_other}
use Rattle.std.proofs.lemmas.List.Elements.{All-get_or}
use Rattle.pp_algebra.specs.Terms.{int}
use Rattle.pp_store.specs.Patterns.{column_at}
use Rattle.pp_store.proofs.FreshNumbers.{put_next}
use Rattle.pp_unify.proofs.Listed.{get_any}
use Rattle.pp_store.proofs.writing.write_terms.Goals as goal

pub loop-i-preserved : goal.loop-i-preserved
loop-i-preserved c =
    let i = c.loop-i.i in
    let ps = c.args.places.now in
    let p = get_or ps i 0 in
    let cols = c.loop-i.columns.items in
    let terms = c.loop-i.terms.items in
    let l : i < length ps = omega (arith, c.loop-i-test.true) in
    let m : i < length terms = omega (arith, l, c.loop-i.invariant.many) in
    let inside = All-get_or (λ k. k < length c.args.columns.now.items) ps i 0 l c.requires.within in
    let there : c.swap.new.x ≡ column_at c.args.terms.items i = c.swap.ensures.x_after ∙ c.index_mut-in-loop-i.ensures.value ∙ get_any terms i _ (int (pos 0)) m ∙ c.loop-i.invariant.left i (omega arith) in
    record {
      count = length-set cols p c.swap.new.x ∙ c.loop-i.invariant.count;
      written = λ k o. put_next ps (column_at c.args.terms.items) (column_at c.args.columns.now.items) i k (column_at cols) (column_at (set cols p c.swap.new.x)) c.requires.distinct l (c.loop-i.invariant.written k o)
          (λ e. ap (column_at (set cols p c.swap.new.x)) e ∙ get_or-set_same cols p c.swap.new.x (int (pos 0)) (omega (arith, inside, c.loop-i.invariant.count)) ∙ there)
          (λ f. get_or-set_other cols p k c.swap.new.x (int (pos 0)) f);
      many = length-set terms i c.swap.new.y ∙ c.loop-i.invariant.many;
      left = λ k o. get_or-set_other terms i k c.swap.new.y (int (pos 0)) (λ e. omega (arith, e, o)) ∙ c.loop-i.invariant.left k (omega (arith, o));
    }
