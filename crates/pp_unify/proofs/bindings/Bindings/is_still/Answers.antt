use Rattle.std.specs.List.{list_all}
use Rattle.std.proofs.Common.{◌≡◌, true, false, drop, sym, ◌∙◌, subst, arith}
use Rattle.pp_unify.specs.Still.{is_unseen}
use Rattle.pp_unify.proofs.StillTops.{within, still_there, are_still, some_since}
use Rattle.pp_unify.proofs.bindings.Bindings.is_still.Goals as goal

pub is_still-requires : goal.is_still-requires
is_still-requires c = record { within = omega (arith, c.mark.view_is, within c.self.inside.state c.args.self.now c.self.view_is c.args.mark c.requires.kept) }

pub returns-clause-still : goal.returns-clause-still
returns-clause-still c h =
    let s = c.self.inside.state in
    are_still s c.args.self.now c.self.view_is c.args.mark c.requires.kept c.self.invariant c.args.below c.requires.below
    (subst (λ n. list_all (is_unseen s.slots.items c.args.below) (drop n s.trail.items) ≡ true) c.mark.view_is (sym c.is_still.ensures ∙ h))

pub returns-clause-changed : goal.returns-clause-changed
returns-clause-changed c h =
    let s = c.self.inside.state in
    some_since s c.args.self.now c.self.view_is c.args.mark c.requires.kept (is_unseen s.slots.items c.args.below)
    (subst (λ n. list_all (is_unseen s.slots.items c.args.below) (drop n s.trail.items) ≡ false) c.mark.view_is (sym c.is_still.ensures ∙ h))

pub returns-clause-there : goal.returns-clause-there
returns-clause-there c = still_there c.self.inside.state c.args.self.now c.self.view_is c.args.mark c.requires.kept c.self.invariant c.args.below c.requires.below
