use Rattle.std.proofs.Common.{rules, ◌≡◌, length, arith, length-set}
use Rattle.pp_resolve.proofs.Ordered.{places_done}
use Rattle.pp_resolve.proofs.suspended.Suspended.resume.Goals as goal

pub returns-clause-ordered : goal.returns-clause-ordered
returns-clause-ordered c =
    let s = c.args.self.now in
    let o = c.requires.ordered in
    let n : c.len-place.result ≡ length s.done.items = search rules in
    let size = length-set s.order.items c.args.at c.len-place.result in
    record {
      room = omega (arith, size, o.room);
      places = rw (c.in_ok-push.ensures.items, n) (places_done s.done.items s.order.items c.args.at o.places c.requires.undone (omega (arith, o.room, c.requires.within)));
    }
