use Rattle.std.proofs.Common.{◌≡◌, ◌<◌, length, get_or, set, arith, ap, sym, ◌∙◌}
use Rattle.std.proofs.lemmas.List.{length-set}
use Rattle.std.proofs.lemmas.List.Elements.{All-get_or}
use Rattle.pp_algebra.specs.Rows.{domain_at}
use Rattle.pp_row.specs.Columns.{sets_of, set_by}
use Rattle.pp_row.proofs.DomainLists.{at_within}
use Rattle.pp_store.proofs.FreshNumbers.{put_next, domain-set_same, domain-set_other}
use Rattle.pp_store.proofs.writing.write_domains.Goals as goal

pub loop-i-preserved : goal.loop-i-preserved
loop-i-preserved c =
    let i = c.loop-i.i in
    let ps = c.args.places.now in
    let p = get_or ps i 0 in
    let ds = c.loop-i.domains.items in
    let more = c.loop-i.more.items in
    let l : i < length ps = omega (arith, c.loop-i-test.true) in
    let m : i < length more = omega (arith, l, c.loop-i.invariant.many) in
    let inside = All-get_or (λ k. k < length c.args.domains.now.items) ps i 0 l c.requires.within in
    let there : set_by c.swap.new.x ≡ domain_at (sets_of c.args.more.items) i = ap set_by (c.swap.ensures.x_after ∙ c.index_mut-in-loop-i.ensures.value) ∙ sym (at_within more i _ m) ∙ c.loop-i.invariant.left i (omega arith) in
    record {
      count = length-set ds p c.swap.new.x ∙ c.loop-i.invariant.count;
      written = λ v. put_next ps (domain_at (sets_of c.args.more.items)) (domain_at (sets_of c.args.domains.now.items)) i v (domain_at (sets_of ds)) (domain_at (sets_of (set ds p c.swap.new.x))) c.requires.distinct l (c.loop-i.invariant.written v)
          (λ e. ap (domain_at (sets_of (set ds p c.swap.new.x))) e ∙ domain-set_same ds p c.swap.new.x (omega (arith, inside, c.loop-i.invariant.count)) ∙ there)
          (λ f. domain-set_other ds p v c.swap.new.x f);
      many = length-set more i c.swap.new.y ∙ c.loop-i.invariant.many;
      left = λ k o. domain-set_other more i k c.swap.new.y (λ e. omega (arith, e, o)) ∙ c.loop-i.invariant.left k (omega (arith, o));
    }
