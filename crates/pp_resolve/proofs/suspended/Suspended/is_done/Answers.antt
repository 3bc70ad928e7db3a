use Rattle.std.proofs.Common.{◌≡◌, length, Some, ap, sym, ◌∙◌, subst, arith}
use Rattle.std.specs.List.{slice_get}
use Rattle.std.proofs.lemmas.Option.{slice_get_within}
use Rattle.pp_resolve.proofs.Ordered.{not_among, entry_tells}
use Rattle.pp_resolve.proofs.Open.{get_slice}
use Rattle.pp_resolve.proofs.suspended.Suspended.is_done.Goals as goal

pub returns-in_default : goal.returns-in_default
returns-in_default c =
    let s = c.args.self.now in
    let out = c.in_default.ensures.lookup.3 in
    sym (not_among s c.args.at c.requires.ordered (λ k on there. absurd (omega (arith, slice_get_within s.order.items c.args.at k on, out, ap length c.deref.ensures.value))))

pub returns-in-None : goal.returns-in-None
returns-in-None c =
    let s = c.args.self.now in
    let p = c.in-Some.place.now in
    let out = c.in-None.ensures.lookup.3 in
    let entry = subst (λ xs. slice_get xs c.args.at ≡ Some p) c.deref.ensures.value (get_slice c.deref.result.now c.args.at p c.in-Some.ensures.lookup.3.0 c.in-Some.ensures.lookup.1) in
    sym (not_among s c.args.at c.requires.ordered (λ k on there.
    let same : p ≡ k = cc (sym entry ∙ on) in
    absurd (omega (arith, slice_get_within s.done.items k c.args.at there, same, out, ap length c.deref-2.ensures.value))))

pub returns-in-Some-get : goal.returns-in-Some-get
returns-in-Some-get c =
    let s = c.args.self.now in
    let p = c.in-Some.place.now in
    let d = c.in-Some-get.done.now in
    let entry = subst (λ xs. slice_get xs c.args.at ≡ Some p) c.deref.ensures.value (get_slice c.deref.result.now c.args.at p c.in-Some.ensures.lookup.3.0 c.in-Some.ensures.lookup.1) in
    let there = subst (λ xs. slice_get xs p ≡ Some d) c.deref-2.ensures.value (get_slice c.deref-2.result.now p d c.in-Some-get.ensures.lookup.3.0 c.in-Some-get.ensures.lookup.1) in
    entry_tells s c.args.at p d c.requires.ordered entry there
