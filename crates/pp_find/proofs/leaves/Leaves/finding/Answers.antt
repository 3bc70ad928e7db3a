use Rattle.pp_find.proofs.Kept.{answers-under, loose-under, some-under, keeps-same, both-alike}
use Rattle.pp_find.proofs.leaves.Leaves.finding.Goals as goal

pub joined_rows-requires : goal.joined_rows-requires
joined_rows-requires c = record { under = some-under c.args.call.now c.args.self.now.answers.items (answers-under c.args.call.now c.args.self.now.answers.items c.args.self.now.loose.items c.args.self.now.bound c.args.self.now.settled c.requires.kept) }

pub joined_rows-requires-2 : goal.joined_rows-requires-2
joined_rows-requires-2 c = record { under = some-under c.args.call.now c.args.self.now.loose.items (loose-under c.args.call.now c.args.self.now.answers.items c.args.self.now.loose.items c.args.self.now.bound c.args.self.now.settled c.requires.kept) }

pub join_options-requires : goal.join_options-requires
join_options-requires c = record { alike = both-alike c.args.call.now c.args.self.now.answers.items c.args.self.now.loose.items c.args.self.now.bound c.args.self.now.settled c.in_ok-g.g c.in_ok-loose.loose c.requires.kept c.in_ok-g.ensures.joined c.in_ok-loose.ensures.joined }

pub returns-in_err-g-clause-kept : goal.returns-in_err-g-clause-kept
returns-in_err-g-clause-kept c = keeps-same c.args.call.now c.args.self.now.answers.items c.joined_rows.new.rows.items c.args.self.now.loose.items c.args.self.now.loose.items c.args.self.now.bound c.args.self.now.settled c.requires.kept (c.joined_rows.ensures.under c.args.call.now (answers-under c.args.call.now c.args.self.now.answers.items c.args.self.now.loose.items c.args.self.now.bound c.args.self.now.settled c.requires.kept)) c.joined_rows.ensures.same (loose-under c.args.call.now c.args.self.now.answers.items c.args.self.now.loose.items c.args.self.now.bound c.args.self.now.settled c.requires.kept)

pub returns-in_err-loose-clause-kept : goal.returns-in_err-loose-clause-kept
returns-in_err-loose-clause-kept c = keeps-same c.args.call.now c.args.self.now.answers.items c.joined_rows.new.rows.items c.args.self.now.loose.items c.joined_rows-2.new.rows.items c.args.self.now.bound c.args.self.now.settled c.requires.kept (c.joined_rows.ensures.under c.args.call.now (answers-under c.args.call.now c.args.self.now.answers.items c.args.self.now.loose.items c.args.self.now.bound c.args.self.now.settled c.requires.kept)) c.joined_rows.ensures.same (c.joined_rows-2.ensures.under c.args.call.now (loose-under c.args.call.now c.args.self.now.answers.items c.args.self.now.loose.items c.args.self.now.bound c.args.self.now.settled c.requires.kept))

pub returns-in_err-h-clause-kept : goal.returns-in_err-h-clause-kept
returns-in_err-h-clause-kept c = keeps-same c.args.call.now c.args.self.now.answers.items c.joined_rows.new.rows.items c.args.self.now.loose.items c.joined_rows-2.new.rows.items c.args.self.now.bound c.args.self.now.settled c.requires.kept (c.joined_rows.ensures.under c.args.call.now (answers-under c.args.call.now c.args.self.now.answers.items c.args.self.now.loose.items c.args.self.now.bound c.args.self.now.settled c.requires.kept)) c.joined_rows.ensures.same (c.joined_rows-2.ensures.under c.args.call.now (loose-under c.args.call.now c.args.self.now.answers.items c.args.self.now.loose.items c.args.self.now.bound c.args.self.now.settled c.requires.kept))

pub returns-clause-kept : goal.returns-clause-kept
returns-clause-kept c = keeps-same c.args.call.now c.args.self.now.answers.items c.joined_rows.new.rows.items c.args.self.now.loose.items c.joined_rows-2.new.rows.items c.args.self.now.bound c.args.self.now.settled c.requires.kept (c.joined_rows.ensures.under c.args.call.now (answers-under c.args.call.now c.args.self.now.answers.items c.args.self.now.loose.items c.args.self.now.bound c.args.self.now.settled c.requires.kept)) c.joined_rows.ensures.same (c.joined_rows-2.ensures.under c.args.call.now (loose-under c.args.call.now c.args.self.now.answers.items c.args.self.now.loose.items c.args.self.now.bound c.args.self.now.settled c.requires.kept))
