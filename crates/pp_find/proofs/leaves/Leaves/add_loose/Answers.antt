use Rattle.std.proofs.Common.{◌≡◌, ◌∷◌, Some, refl}
use Rattle.std.proofs.lemmas.Result.{IfOk-weaker}
use Rattle.pp_sld.specs.Findings.{join_option}
use Rattle.pp_find.specs.Common.{common}
use Rattle.pp_find.proofs.Kept.{answers-under, loose-under, some-under, more-under, keeps-same, loose-more, loose-known}
use Rattle.pp_find.proofs.leaves.Leaves.add_loose.Goals as goal

pub any_covers-requires : goal.any_covers-requires
any_covers-requires c = record { under = rw c.as_slice.ensures.value (some-under c.args.call.now (c.args.row ∷ c.args.self.now.answers.items) (more-under c.args.call.now c.args.self.now.answers.items c.args.row (answers-under c.args.call.now c.args.self.now.answers.items c.args.self.now.loose.items c.args.self.now.bound c.args.self.now.settled c.requires.kept) c.requires.under c.columns-canonical.ensures.row.canonical)) }

pub any_covers-requires-2 : goal.any_covers-requires-2
any_covers-requires-2 c = record { under = rw c.as_slice-2.ensures.value (some-under c.args.call.now (c.args.row ∷ c.args.self.now.loose.items) (more-under c.args.call.now c.args.self.now.loose.items c.args.row (loose-under c.args.call.now c.args.self.now.answers.items c.args.self.now.loose.items c.args.self.now.bound c.args.self.now.settled c.requires.kept) c.requires.under c.columns-canonical.ensures.row.canonical)) }

pub add_row-requires : goal.add_row-requires
add_row-requires c = record { under = some-under c.args.call.now (c.args.row ∷ c.args.self.now.loose.items) (more-under c.args.call.now c.args.self.now.loose.items c.args.row (loose-under c.args.call.now c.args.self.now.answers.items c.args.self.now.loose.items c.args.self.now.bound c.args.self.now.settled c.requires.kept) c.requires.under c.columns-canonical.ensures.row.canonical) }

pub returns-then-branch-clause-added : goal.returns-then-branch-clause-added
returns-then-branch-clause-added c = loose-known c.args.call.now c.args.self.now.answers.items c.args.self.now.loose.items c.args.row (answers-under c.args.call.now c.args.self.now.answers.items c.args.self.now.loose.items c.args.self.now.bound c.args.self.now.settled c.requires.kept) (loose-under c.args.call.now c.args.self.now.answers.items c.args.self.now.loose.items c.args.self.now.bound c.args.self.now.settled c.requires.kept) (c.requires.under, c.columns-canonical.ensures.row.canonical) (rw c.as_slice.ensures.value at (c.in_ok-any_covers.ensures c.if-branch.true))

pub returns-then-branch-2-clause-added : goal.returns-then-branch-2-clause-added
returns-then-branch-2-clause-added c = loose-more c.args.call.now c.args.self.now.answers.items c.args.self.now.loose.items c.args.self.now.loose.items c.args.row (answers-under c.args.call.now c.args.self.now.answers.items c.args.self.now.loose.items c.args.self.now.bound c.args.self.now.settled c.requires.kept) (loose-under c.args.call.now c.args.self.now.answers.items c.args.self.now.loose.items c.args.self.now.bound c.args.self.now.settled c.requires.kept) (c.requires.under, c.columns-canonical.ensures.row.canonical) (rw c.as_slice-2.ensures.value at (c.in_ok-any_covers-2.ensures c.if-branch-2.true))

pub returns-clause-kept : goal.returns-clause-kept
returns-clause-kept c = keeps-same c.args.call.now c.args.self.now.answers.items c.args.self.now.answers.items c.args.self.now.loose.items c.add_row.new.rows.items c.args.self.now.bound c.args.self.now.settled c.requires.kept (answers-under c.args.call.now c.args.self.now.answers.items c.args.self.now.loose.items c.args.self.now.bound c.args.self.now.settled c.requires.kept) refl (c.add_row.ensures.under c.args.call.now (more-under c.args.call.now c.args.self.now.loose.items c.args.row (loose-under c.args.call.now c.args.self.now.answers.items c.args.self.now.loose.items c.args.self.now.bound c.args.self.now.settled c.requires.kept) c.requires.under c.columns-canonical.ensures.row.canonical))

pub returns-clause-added : goal.returns-clause-added
returns-clause-added c = IfOk-weaker c.add_row.result (λ _. common c.add_row.new.rows.items ≡ join_option (common c.args.self.now.loose.items) (Some c.args.row)) (λ _. join_option (common c.args.self.now.answers.items) (common c.add_row.new.rows.items) ≡ join_option (join_option (common c.args.self.now.answers.items) (common c.args.self.now.loose.items)) (Some c.args.row)) (λ _ e. loose-more c.args.call.now c.args.self.now.answers.items c.args.self.now.loose.items c.add_row.new.rows.items c.args.row (answers-under c.args.call.now c.args.self.now.answers.items c.args.self.now.loose.items c.args.self.now.bound c.args.self.now.settled c.requires.kept) (loose-under c.args.call.now c.args.self.now.answers.items c.args.self.now.loose.items c.args.self.now.bound c.args.self.now.settled c.requires.kept) (c.requires.under, c.columns-canonical.ensures.row.canonical) e) c.add_row.ensures.added
