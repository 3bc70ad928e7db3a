use Rattle.std.proofs.Common.{◌≡◌, length, reverse, refl, sym, ap, ◌∙◌, subst, All, arith}
use Rattle.std.proofs.lemmas.List.Elements.{All-nil}
use Rattle.pp_algebra.specs.Terms.{count}
use Rattle.pp_term.specs.Meanings.{shape_of}
use Rattle.pp_row.specs.Reading.{forest}
use Rattle.pp_unify.specs.States.{present}
use Rattle.pp_resolve.specs.Starting.{free_row}
use Rattle.pp_resolve.specs.declared.root.Root.{Root}
use Rattle.pp_resolve.specs.declared.history.Waits.{Waits}
use Rattle.pp_resolve.specs.Links.{AreLinks}
use Rattle.pp_resolve.specs.Shown.{root_of}
use Rattle.pp_resolve.specs.Kept.{kept_of}
use Rattle.pp_resolve.specs.Engines.{Stands}
use Rattle.pp_resolve.proofs.Waits.{none_suspended}
use Rattle.pp_resolve.proofs.Starts.{begins, begins_row, begins_over}
use Rattle.pp_resolve.proofs.engine.Engine.start.Goals as goal

pub returns-clause-good : goal.returns-clause-good
returns-clause-good c =
    let cs = c.args.clauses.now in
    let face = c.args.face.now in
    let h = c.new.result in
    let ts = forest c.in_ok-cells.cells.items in
    let terms : ts ≡ face.columns = c.in_ok-cells.ensures.terms ∙ c.columns.ensures.columns in
    let free : present h.bindings ≡ free_row face.domains = ap present c.new.ensures.bindings ∙ c.in_ok-bindings.ensures ∙ ap free_row c.domains.ensures.domains in
    let calls = c.in_ok-columns.columns.columns in
    let calls_are = ap (λ r. r.columns) c.in_ok-columns.ensures in
    let waits : Waits = record { since = c.mark-since.result; upto = 0 } in
    let asked : Root = record { shape = c.args.shape; predicate = c.predicate_of-predicate.result; cells = c.in_ok-cells.cells } in
    let stands = Stands cs (root_of asked) calls in
    record {
      ready = record {
        fit = c.new.ensures.fit;
        kept = subst (All stands) (sym c.new.ensures.frames) (All-nil stands);
        root = record { named = c.predicate_of-predicate.ensures; whole = c.in_ok-cells.ensures.whole; width = ap count terms ∙ c.requires.arguments };
      };
      here = record {
        row = begins_row cs face c.columns.ensures.row (shape_of c.args.shape) c.args.depth waits ts terms (kept_of h) c.new.ensures.suspended calls calls_are (present h.bindings) free;
        over = begins_over cs face c.columns.ensures.row (shape_of c.args.shape) c.args.depth waits ts terms (kept_of h) c.new.ensures.suspended calls calls_are (present h.bindings) free;
        rest = record { formed = tt; from = omega arith; to = omega arith; next = omega arith; small = omega arith };
        links = subst (λ ls. AreLinks cs (root_of asked) (reverse ls)) (sym c.new.ensures.links) tt;
        suspended = rw (c.new.ensures.suspended, c.new.ensures.done) (none_suspended cs (root_of asked) (present h.bindings));
        waiting = rw c.new.ensures.suspended refl;
        waits = record {
          there = omega (arith, c.mark-since.ensures.place, ap length c.new.ensures.bindings);
          upto = omega arith;
          below = λ j s is l. absurd (omega (arith, l));
          goals = λ j s is l o. absurd (omega (arith, l));
        };
        known = tt;
      };
    }

pub returns-clause-here : goal.returns-clause-here
returns-clause-here c =
    let cs = c.args.clauses.now in
    let face = c.args.face.now in
    let h = c.new.result in
    let ts = forest c.in_ok-cells.cells.items in
    let terms : ts ≡ face.columns = c.in_ok-cells.ensures.terms ∙ c.columns.ensures.columns in
    let free : present h.bindings ≡ free_row face.domains = ap present c.new.ensures.bindings ∙ c.in_ok-bindings.ensures ∙ ap free_row c.domains.ensures.domains in
    let calls_are = ap (λ r. r.columns) c.in_ok-columns.ensures in
    let waits : Waits = record { since = c.mark-since.result; upto = 0 } in
    begins cs face c.columns.ensures.row (shape_of c.args.shape) c.args.depth waits ts terms (kept_of h) c.new.ensures.suspended c.in_ok-columns.columns.columns calls_are (present h.bindings) free
