use Rattle.pp_build.proofs.Numbering.{terms_seen, terms_pushed}
use Rattle.pp_build.proofs.renumber.number_terms.Goals as goal

pub loop-term-preserved : goal.loop-term-preserved
loop-term-preserved c =
    let i = c.loop-term.invariant in
    let e = c.in_ok-numbered-2.ensures in
    record {
      seen = terms_seen c.args.seen.now.keys c.loop-term.seen.keys c.numbered.new.names.keys c.loop-term.yielded c.loop-term.numbered.items i.seen i.terms c.in-Some.term e.names;
      terms = rw c.in_ok-push.ensures.items (terms_pushed c.args.seen.now.keys c.loop-term.seen.keys c.numbered.new.names.keys c.loop-term.yielded c.loop-term.numbered.items i.seen i.terms c.in-Some.term c.in_ok-numbered-2.field-0 e.names e.term);
    }
