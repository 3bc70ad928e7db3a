use Rattle.std.proofs.Common.{pos, sym, ◌∙◌, slice_index_or}
use Rattle.pp_heap.proofs.Words.{word}
use Rattle.pp_heap.proofs.Members.{first_lies, has_only, at_least_two}
use Rattle.pp_heap.proofs.bind.only_member.Goals as goal

pub returns-then-size-eq1 : goal.returns-then-size-eq1
returns-then-size-eq1 c =
    let ps = c.args.domain.now in
    let i = c.intervals-intervals.ensures in
    rw i.same (
    let h = has_only ps (slice_index_or ps 0 (pos 0, pos 0)).0 i.domain (sym c.size.ensures ∙ c.if-size-eq1.true) (first_lies ps (pos 0, pos 0) i.domain) in
    rw (word (slice_index_or ps 0 (pos 0, pos 0)).0 h.integer) h)

pub returns-else-size-eq1 : goal.returns-else-size-eq1
returns-else-size-eq1 c = at_least_two c.args.domain.now c.intervals-intervals.ensures.domain (λ e. c.if-size-eq1.false (c.size.ensures ∙ e))
