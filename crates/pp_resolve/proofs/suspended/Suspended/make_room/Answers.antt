use Rattle.std.proofs.Common.{length, ap, ◌∙◌, arith, length-append}
use Rattle.pp_resolve.proofs.Ordered.{places_more}
use Rattle.pp_resolve.proofs.suspended.Suspended.make_room.Goals as goal

pub returns-clause-ordered : goal.returns-clause-ordered
returns-clause-ordered c =
    let s = c.args.self.now in
    let o = c.requires.ordered in
    let items = c.in_ok-push.ensures.items in
    let size = ap length items ∙ length-append s.order.items _ in
    record { room = omega (arith, size, o.room); places = places_more s.done.items s.order.items c.push.new.self.items 0 items o.places }
