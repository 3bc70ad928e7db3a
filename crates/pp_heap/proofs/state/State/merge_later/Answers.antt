use Rattle.pp_heap.specs.Values.{domain_by}
use Rattle.pp_heap.specs.declared.state.Value.TheVariants.{Variable, Int}
use Rattle.pp_heap.proofs.Binding.{IsBinding, IsGiving}
use Rattle.pp_heap.proofs.Words.{word}
use Rattle.pp_heap.proofs.Calm.{free_calm, later_through}
use Rattle.pp_heap.proofs.Narrowing.{one_later, many_later}
use Rattle.pp_heap.proofs.Merging.{later_same, ones_later, ones_solve, many_merged_later, many_solve, high_free}
use Rattle.pp_heap.specs.declared.state.Slot.TheVariants as slots
use Rattle.pp_heap.proofs.state.State.merge_later.Goals as goal

pub returns-in_err-bind-in-One-2-clause-later : goal.returns-in_err-bind-in-One-2-clause-later
returns-in_err-bind-in-One-2-clause-later c =
    let a = c.args.self.now in
    let m = c.meet_places.new.self in
    let b = c.bind.new.self in
    let fl = c.domain_place-low_domain.ensures in
    let calm = c.in_ok-meet_places.ensures.calm in
    let q = rw c.in-One.is at c.in_ok-meet_places.ensures.meeting in
    let done = rw (word c.in-One.value q.0) at c.in_ok-bind-in-One.ensures.done in
    let l = one_later a m c.args.low c.domain_place-low_domain.result (domain_by a.domains.items c.domain_place-high_domain.result) c.requires.good calm fl b c.in-One.value q (record { good = calm.good; free = free_calm a m c.args.low c.domain_place-low_domain.result calm fl; change = done }) in
    later_through a b c.bind-in-One.new.self l (later_same b c.bind-in-One.new.self l.good c.in_err-bind-in-One-2.ensures.err)

pub returns-in_err-bind-in-Many-clause-later : goal.returns-in_err-bind-in-Many-clause-later
returns-in_err-bind-in-Many-clause-later c =
    let a = c.args.self.now in
    let m = c.meet_places.new.self in
    let b = c.give.new.self in
    let fl = c.domain_place-low_domain.ensures in
    let calm = c.in_ok-meet_places.ensures.calm in
    let q = rw c.in-Many.is at c.in_ok-meet_places.ensures.meeting in
    let l = many_later a m c.args.low c.domain_place-low_domain.result (domain_by a.domains.items c.domain_place-high_domain.result) c.requires.good calm fl b c.in-Many.domain q (record { good = calm.good; free = free_calm a m c.args.low c.domain_place-low_domain.result calm fl; change = c.in_ok-give-in-Many.ensures.done }) in
    later_through a b c.bind-in-Many.new.self l (later_same b c.bind-in-Many.new.self l.good c.in_err-bind-in-Many.ensures.err)

pub returns-in_ok-bind-in-One-2 : goal.returns-in_ok-bind-in-One-2
returns-in_ok-bind-in-One-2 c =
    let a = c.args.self.now in
    let m = c.meet_places.new.self in
    let b = c.bind.new.self in
    let d = c.bind-in-One.new.self in
    let dl = c.domain_place-low_domain.result in
    let dh = c.domain_place-high_domain.result in
    let fl = c.domain_place-low_domain.ensures in
    let fh = c.domain_place-high_domain.ensures in
    let calm = c.in_ok-meet_places.ensures.calm in
    let q = rw c.in-One.is at c.in_ok-meet_places.ensures.meeting in
    let done = rw (word c.in-One.value q.0) at c.in_ok-bind-in-One.ensures.done in
    let done2 = rw (word c.in-One.value q.0) at c.in_ok-bind-in-One-2.ensures.done in
    let p : IsBinding m b c.args.low dl (Int c.in-One.value) = record { good = calm.good; free = free_calm a m c.args.low dl calm fl; change = done } in
    let l = one_later a m c.args.low dl (domain_by a.domains.items dh) c.requires.good calm fl b c.in-One.value q p in
    let r : IsBinding b d c.args.high dh (Int c.in-One.value) = record { good = l.good; free = high_free a m b d c.args.low c.args.high dl dh c.requires.good calm fl fh c.requires.order (slots.Int c.in-One.value) done.store; change = done2 } in
    record {
      later = ones_later a m b d c.args.low c.args.high dl dh c.requires.good calm fl fh c.requires.order c.in-One.value q p r;
      answer = ones_solve a m b d c.args.low c.args.high dl dh c.requires.good calm fl fh c.requires.order c.in-One.value q p r;
    }

pub returns-in_ok-bind-in-Many : goal.returns-in_ok-bind-in-Many
returns-in_ok-bind-in-Many c =
    let a = c.args.self.now in
    let m = c.meet_places.new.self in
    let b = c.give.new.self in
    let d = c.bind-in-Many.new.self in
    let dl = c.domain_place-low_domain.result in
    let dh = c.domain_place-high_domain.result in
    let fl = c.domain_place-low_domain.ensures in
    let fh = c.domain_place-high_domain.ensures in
    let calm = c.in_ok-meet_places.ensures.calm in
    let q = rw c.in-Many.is at c.in_ok-meet_places.ensures.meeting in
    let p : IsGiving m b c.args.low dl c.in-Many.domain = record { good = calm.good; free = free_calm a m c.args.low dl calm fl; change = c.in_ok-give-in-Many.ensures.done } in
    let l = many_later a m c.args.low dl (domain_by a.domains.items dh) c.requires.good calm fl b c.in-Many.domain q p in
    let r : IsBinding b d c.args.high dh (Variable c.args.low) = record { good = l.good; free = high_free a m b d c.args.low c.args.high dl dh c.requires.good calm fl fh c.requires.order (slots.Free c.in-Many.domain) c.in_ok-give-in-Many.ensures.done.store; change = c.in_ok-bind-in-Many.ensures.done } in
    record {
      later = many_merged_later a m b d c.args.low c.args.high dl dh c.requires.good calm fl fh c.requires.order c.in-Many.domain q p r;
      answer = many_solve a m b d c.args.low c.args.high dl dh c.requires.good calm fl fh c.requires.order c.in-Many.domain q p r;
    }
