use Rattle.std.proofs.Common.{subst}
use Rattle.std.proofs.Math.Logic.{∥∥₁_map}
use Rattle.pp_term.specs.Meanings.{mode_of}
use Rattle.pp_find.specs.Meanings.{FitsIn}
use Rattle.pp_find.proofs.Alike.{parts}
use Rattle.pp_find.proofs.lattice.FindingsLattice.below.Goals as goal

pub is_option_below-requires-clause-left : goal.is_option_below-requires-clause-left
is_option_below-requires-clause-left c =
    let m = mode_of c.args.self.now.mode in
    let call = c.args.self.now.call in
    ∥∥₁_map (subst (λ f. ∥ FitsIn m call f ∥₁) c.in-Most-Most.is-0 c.requires.left) (λ f. (parts m call c.in-Most-Most.g c.in-Most-Most.h f).0)

pub is_option_below-requires-clause-right : goal.is_option_below-requires-clause-right
is_option_below-requires-clause-right c =
    let m = mode_of c.args.self.now.mode in
    let call = c.args.self.now.call in
    ∥∥₁_map (subst (λ f. ∥ FitsIn m call f ∥₁) c.in-Most-Most.is-1 c.requires.right) (λ f. (parts m call c.in-Most-Most.k c.in-Most-Most.l f).0)

pub is_option_below-requires-then-branch-clause-left : goal.is_option_below-requires-then-branch-clause-left
is_option_below-requires-then-branch-clause-left c =
    let m = mode_of c.args.self.now.mode in
    let call = c.args.self.now.call in
    ∥∥₁_map (subst (λ f. ∥ FitsIn m call f ∥₁) c.in-Most-Most.is-0 c.requires.left) (λ f. (parts m call c.in-Most-Most.g c.in-Most-Most.h f).1)

pub is_option_below-requires-then-branch-clause-right : goal.is_option_below-requires-then-branch-clause-right
is_option_below-requires-then-branch-clause-right c =
    let m = mode_of c.args.self.now.mode in
    let call = c.args.self.now.call in
    ∥∥₁_map (subst (λ f. ∥ FitsIn m call f ∥₁) c.in-Most-Most.is-1 c.requires.right) (λ f. (parts m call c.in-Most-Most.k c.in-Most-Most.l f).1)
