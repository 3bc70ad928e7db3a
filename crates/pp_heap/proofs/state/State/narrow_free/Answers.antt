use Rattle.std.proofs.Common.{Some}
use Rattle.pp_domain.specs.Sets.{set_of}
use Rattle.pp_heap.proofs.Calm.{free_calm}
use Rattle.pp_heap.proofs.Words.{word}
use Rattle.pp_heap.proofs.Narrowing.{narrowed_one, narrowed_many, one_later, many_later}
use Rattle.pp_heap.proofs.state.State.narrow_free.Goals as goal

pub returns-in_ok-bind-in-One-clause-later : goal.returns-in_ok-bind-in-One-clause-later
returns-in_ok-bind-in-One-clause-later c =
    let a = c.args.self.now in
    let m = c.meet_domain.new.self in
    let f = c.domain_place-place.ensures in
    let calm = c.in_ok-meet_domain.ensures.calm in
    let q = rw c.in-One.is at c.in_ok-meet_domain.ensures.meeting in
    let done = rw (word c.in-One.value q.0) at c.in_ok-bind-in-One.ensures.done in
    one_later a m c.args.free c.domain_place-place.result (Some (set_of c.args.domain.now)) c.requires.good calm f c.bind.new.self c.in-One.value q (record { good = calm.good; free = free_calm a m c.args.free c.domain_place-place.result calm f; change = done })

pub returns-in_ok-bind-in-One-clause-verdict : goal.returns-in_ok-bind-in-One-clause-verdict
returns-in_ok-bind-in-One-clause-verdict c =
    let a = c.args.self.now in
    let m = c.meet_domain.new.self in
    let f = c.domain_place-place.ensures in
    let calm = c.in_ok-meet_domain.ensures.calm in
    let q = rw c.in-One.is at c.in_ok-meet_domain.ensures.meeting in
    let done = rw (word c.in-One.value q.0) at c.in_ok-bind-in-One.ensures.done in
    narrowed_one a m c.args.free c.domain_place-place.result (Some (set_of c.args.domain.now)) c.requires.good calm f c.bind.new.self c.in-One.value q (record { good = calm.good; free = free_calm a m c.args.free c.domain_place-place.result calm f; change = done })

pub returns-in_ok-give-in-Many-clause-later : goal.returns-in_ok-give-in-Many-clause-later
returns-in_ok-give-in-Many-clause-later c =
    let a = c.args.self.now in
    let m = c.meet_domain.new.self in
    let f = c.domain_place-place.ensures in
    let calm = c.in_ok-meet_domain.ensures.calm in
    let q = rw c.in-Many.is at c.in_ok-meet_domain.ensures.meeting in
    many_later a m c.args.free c.domain_place-place.result (Some (set_of c.args.domain.now)) c.requires.good calm f c.give.new.self c.in-Many.narrowed q (record { good = calm.good; free = free_calm a m c.args.free c.domain_place-place.result calm f; change = c.in_ok-give-in-Many.ensures.done })

pub returns-in_ok-give-in-Many-clause-verdict : goal.returns-in_ok-give-in-Many-clause-verdict
returns-in_ok-give-in-Many-clause-verdict c =
    let a = c.args.self.now in
    let m = c.meet_domain.new.self in
    let f = c.domain_place-place.ensures in
    let calm = c.in_ok-meet_domain.ensures.calm in
    let q = rw c.in-Many.is at c.in_ok-meet_domain.ensures.meeting in
    narrowed_many a m c.args.free c.domain_place-place.result (Some (set_of c.args.domain.now)) c.requires.good calm f c.give.new.self c.in-Many.narrowed q (record { good = calm.good; free = free_calm a m c.args.free c.domain_place-place.result calm f; change = c.in_ok-give-in-Many.ensures.done })
