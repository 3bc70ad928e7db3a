use Rattle.std.proofs.Common.{◌∷◌, sym, subst}
use Rattle.pp_find.specs.Common.{Keeps}
use Rattle.pp_find.proofs.Kept.{answers-under, loose-under, some-under, more-under, keeps-same, keeps-whole, whole-width}
use Rattle.pp_find.proofs.leaves.Leaves.weigh.Goals as goal

pub joined_with-requires : goal.joined_with-requires
joined_with-requires c = record { under = some-under c.args.call.now (c.args.row ∷ c.args.self.now.answers.items) (more-under c.args.call.now c.args.self.now.answers.items c.args.row (answers-under c.args.call.now c.args.self.now.answers.items c.args.self.now.loose.items c.args.self.now.bound c.args.self.now.settled c.requires.kept) c.requires.under c.columns-canonical.ensures.row.canonical) }

pub returns-in_err-whole-clause-kept : goal.returns-in_err-whole-clause-kept
returns-in_err-whole-clause-kept c = keeps-same c.args.call.now c.args.self.now.answers.items c.joined_with.new.rows.items c.args.self.now.loose.items c.args.self.now.loose.items c.args.self.now.bound c.args.self.now.settled c.requires.kept (c.joined_with.ensures.under c.args.call.now (answers-under c.args.call.now c.args.self.now.answers.items c.args.self.now.loose.items c.args.self.now.bound c.args.self.now.settled c.requires.kept)) c.joined_with.ensures.same (loose-under c.args.call.now c.args.self.now.answers.items c.args.self.now.loose.items c.args.self.now.bound c.args.self.now.settled c.requires.kept)

pub bound_of-requires : goal.bound_of-requires
bound_of-requires c = record { width = whole-width c.args.call.now c.args.self.now.answers.items c.args.self.now.loose.items c.args.self.now.bound c.args.self.now.settled c.args.row c.in_ok-whole.whole c.requires.kept (c.requires.under, c.columns-canonical.ensures.row.canonical) c.in_ok-whole.ensures.joined }

pub returns-in_err-bound-clause-kept : goal.returns-in_err-bound-clause-kept
returns-in_err-bound-clause-kept c = keeps-same c.args.call.now c.args.self.now.answers.items c.joined_with.new.rows.items c.args.self.now.loose.items c.args.self.now.loose.items c.args.self.now.bound c.args.self.now.settled c.requires.kept (c.joined_with.ensures.under c.args.call.now (answers-under c.args.call.now c.args.self.now.answers.items c.args.self.now.loose.items c.args.self.now.bound c.args.self.now.settled c.requires.kept)) c.joined_with.ensures.same (loose-under c.args.call.now c.args.self.now.answers.items c.args.self.now.loose.items c.args.self.now.bound c.args.self.now.settled c.requires.kept)

pub returns-in_err-put_row-clause-kept : goal.returns-in_err-put_row-clause-kept
returns-in_err-put_row-clause-kept c =
    subst (λ ys. ∥ Keeps c.args.call.now ys c.args.self.now.loose.items c.args.self.now.bound c.args.self.now.settled ∥₁) (sym c.in_err-put_row.ensures.err) (keeps-same c.args.call.now c.args.self.now.answers.items c.joined_with.new.rows.items c.args.self.now.loose.items c.args.self.now.loose.items c.args.self.now.bound c.args.self.now.settled c.requires.kept (c.joined_with.ensures.under c.args.call.now (answers-under c.args.call.now c.args.self.now.answers.items c.args.self.now.loose.items c.args.self.now.bound c.args.self.now.settled c.requires.kept)) c.joined_with.ensures.same (loose-under c.args.call.now c.args.self.now.answers.items c.args.self.now.loose.items c.args.self.now.bound c.args.self.now.settled c.requires.kept))

pub returns-clause-kept : goal.returns-clause-kept
returns-clause-kept c =
    subst (λ ys. ∥ Keeps c.args.call.now ys c.args.self.now.loose.items c.in_ok-bound.bound c.same_rows-settled.result ∥₁) (sym c.in_ok-put_row.ensures.put) (keeps-whole c.args.call.now c.args.self.now.answers.items c.args.self.now.loose.items c.args.self.now.bound c.in_ok-bound.bound c.args.self.now.settled c.same_rows-settled.result c.args.row c.in_ok-whole.whole c.requires.kept (c.requires.under, c.columns-canonical.ensures.row.canonical) c.in_ok-whole.ensures.joined c.in_ok-bound.ensures c.same_rows-settled.ensures)
