use Rattle.std.proofs.Common.{◌≡◌, ◌++◌, ◌∷◌, [], refl}
use Rattle.pp_core.specs.declared.entry.Act.TheVariants.{Looked}
use Rattle.pp_cell.specs.Entries.{entry}
use Rattle.pp_cell.proofs.Books.{tells_more, tells_same}
use Rattle.pp_cell.proofs.book.Book.look.Goals as goal

pub invariant_of-self-2 : goal.invariant_of-self-2
invariant_of-self-2 g c =
    let old = c.args.self.now in
    let wrote : c.push_reserved.new.self.items ≡ old.entries.items ++ entry c.args.seat Looked ∷ [] = cc in
    let t = tells_same g.S.Space.are_same (λ x. g.S.Lattice.joined x.now) (λ x. g.S.Space.worth x.now) (λ x. g.S.Lattice.bottom x.now) (λ x. g.S.Lattice.fits x.now)
    old.core.space old.core.space old.core.root old.core.root old.core.live.items old.core.live.items old.core.value old.core.value _ c.push_reserved.new.self.items
    refl refl refl refl wrote
    (tells_more g.S.Space.are_same (λ x. g.S.Lattice.joined x.now) (λ x. g.S.Space.worth x.now) (λ x. g.S.Lattice.bottom x.now) (λ x. g.S.Lattice.fits x.now)
    old.core.space old.core.root old.core.live.items old.core.value old.entries.items (entry c.args.seat Looked) (old.live, old.value, old.sound, old.taken) tt tt old.core.live.items old.core.value refl) in
    record { live = t.0; value = t.1; sound = t.2; taken = t.3 }
