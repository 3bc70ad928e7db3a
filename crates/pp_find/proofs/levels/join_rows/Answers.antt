use Rattle.std.proofs.Common.{rules, ◌∙◌, refl}
use Rattle.pp_find.proofs.Commons.{still-under}
use Rattle.pp_find.proofs.levels.join_rows.Goals as goal

pub loop-alloc-init : goal.loop-alloc-init
loop-alloc-init c = record { same = refl; under = λ call x. x; some = c.requires.under }

pub join_last-requires-clause-under : goal.join_last-requires-clause-under
join_last-requires-clause-under c = c.loop-alloc.invariant.some

pub loop-alloc-smaller : goal.loop-alloc-smaller
loop-alloc-smaller c = search rules

pub loop-alloc-preserved : goal.loop-alloc-preserved
loop-alloc-preserved c = record {
  same = c.join_last.ensures.same ∙ c.loop-alloc.invariant.same;
  under = λ call x. c.join_last.ensures.under call (c.loop-alloc.invariant.under call x);
  some = still-under c.loop-alloc.rows.items c.join_last.new.rows.items c.join_last.ensures.under c.loop-alloc.invariant.some;
}

pub returns-in_err-join_last-clause-same : goal.returns-in_err-join_last-clause-same
returns-in_err-join_last-clause-same c = c.join_last.ensures.same ∙ c.loop-alloc.invariant.same

pub returns-in_err-join_last-clause-under : goal.returns-in_err-join_last-clause-under
returns-in_err-join_last-clause-under c = λ call x. c.join_last.ensures.under call (c.loop-alloc.invariant.under call x)

pub returns-clause-same : goal.returns-clause-same
returns-clause-same c = c.loop-alloc.invariant.same

pub returns-clause-under : goal.returns-clause-under
returns-clause-under c = c.loop-alloc.invariant.under
