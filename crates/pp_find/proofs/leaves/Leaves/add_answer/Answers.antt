use Rattle.std.proofs.Common.{◌∷◌}
use Rattle.pp_find.proofs.Kept.{answers-under, loose-under, some-under, more-under, keeps-same, keeps-bounded}
use Rattle.pp_find.proofs.leaves.Leaves.add_answer.Goals as goal

pub any_covers-requires : goal.any_covers-requires
any_covers-requires c = record { under = rw c.as_slice.ensures.value (some-under c.args.call.now (c.args.row ∷ c.args.self.now.answers.items) (more-under c.args.call.now c.args.self.now.answers.items c.args.row (answers-under c.args.call.now c.args.self.now.answers.items c.args.self.now.loose.items c.args.self.now.bound c.args.self.now.settled c.requires.kept) c.requires.under c.columns-canonical.ensures.row.canonical)) }

pub add_row-requires : goal.add_row-requires
add_row-requires c = record { under = some-under c.args.call.now (c.args.row ∷ c.args.self.now.answers.items) (more-under c.args.call.now c.args.self.now.answers.items c.args.row (answers-under c.args.call.now c.args.self.now.answers.items c.args.self.now.loose.items c.args.self.now.bound c.args.self.now.settled c.requires.kept) c.requires.under c.columns-canonical.ensures.row.canonical) }

pub returns-in_err-add_row-clause-kept : goal.returns-in_err-add_row-clause-kept
returns-in_err-add_row-clause-kept c = keeps-same c.args.call.now c.args.self.now.answers.items c.add_row.new.rows.items c.args.self.now.loose.items c.args.self.now.loose.items c.args.self.now.bound c.args.self.now.settled c.requires.kept (c.add_row.ensures.under c.args.call.now (more-under c.args.call.now c.args.self.now.answers.items c.args.row (answers-under c.args.call.now c.args.self.now.answers.items c.args.self.now.loose.items c.args.self.now.bound c.args.self.now.settled c.requires.kept) c.requires.under c.columns-canonical.ensures.row.canonical)) c.in_err-add_row.ensures.err (loose-under c.args.call.now c.args.self.now.answers.items c.args.self.now.loose.items c.args.self.now.bound c.args.self.now.settled c.requires.kept)

pub returns-then-branch-2-clause-kept : goal.returns-then-branch-2-clause-kept
returns-then-branch-2-clause-kept c = keeps-bounded c.args.call.now c.args.self.now.answers.items c.add_row.new.rows.items c.args.self.now.loose.items c.args.self.now.bound c.args.self.now.settled c.args.row c.requires.kept (c.add_row.ensures.under c.args.call.now (more-under c.args.call.now c.args.self.now.answers.items c.args.row (answers-under c.args.call.now c.args.self.now.answers.items c.args.self.now.loose.items c.args.self.now.bound c.args.self.now.settled c.requires.kept) c.requires.under c.columns-canonical.ensures.row.canonical)) c.in_ok-add_row.ensures.added (c.in_ok-is_bounded.ensures c.if-branch-2.true)
