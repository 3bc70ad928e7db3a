use Rattle.std.proofs.Common.{[], ◌∷◌, ◌++◌, length, refl, ap, ◌∙◌, arith, length-append}
use Rattle.pp_resolve.specs.Kept.{kept_of}
use Rattle.pp_resolve.specs.Links.{open_from}
use Rattle.pp_resolve.specs.Engines.{goal_of, row_of}
use Rattle.pp_resolve.proofs.Linked.{links_more}
use Rattle.pp_resolve.proofs.Moving.{kept_at, same_place, left_still, known_still}
use Rattle.pp_resolve.proofs.engine.Engine.link.Goals as goal

pub returns-clause-same : goal.returns-clause-same
returns-clause-same c =
    let e = c.args.self.now in
    let h = c.link.new.self in
    let cs = e.clauses.now in
    let root = goal_of e in
    let ls = e.history.links.items in
    let here = c.requires.good.here in
    let more = c.in_ok-link.ensures.links in
    let size = ap length more ∙ length-append ls (c.args.rest ∷ []) in
    let goals = ap (λ s. s.goals.items) c.link.ensures.suspended in
    let done = ap (λ s. s.done.items) c.link.ensures.suspended in
    same_place e h e.front c.requires.good c.link.ensures.bindings c.link.ensures.fit c.link.ensures.frames
    (rw (goals, done) (ap (λ gs. open_from cs root e.history.suspended.done.items 0 e.history.suspended.goals.items ++ gs) (left_still cs root ls h.links.items (c.args.rest ∷ []) e.front.rest more here.rest.next))) refl
    (record { formed = here.rest.formed; from = here.rest.from; to = here.rest.to; next = omega (arith, here.rest.next, size); small = here.rest.small })
    (links_more cs root ls h.links.items c.args.rest more c.requires.some c.requires.rest here.links)
    (rw (goals, done) here.suspended)
    (rw (goals, done) here.waiting)
    (record { there = here.waits.there; upto = rw goals here.waits.upto; below = rw goals here.waits.below; goals = rw (goals, done) here.waits.goals })
    (known_still cs root (row_of e) (kept_of e.history) (kept_at h e.history.bindings) e.front e.front.selected goals done here.known)
