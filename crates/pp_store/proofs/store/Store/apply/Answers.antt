use Rattle.std.proofs.Common.{◌<◌, [], length, map, get_or, arith, sym, ap, ◌∙◌, subst, inl, inr}
use Rattle.pp_algebra.specs.Covers.{IsIn}
use Rattle.pp_propagation.specs.Stores.{Asked, face, apply}
use Rattle.pp_propagation.specs.Turns.{woken}
use Rattle.std.specs.Prelude.{filter}
use Rattle.pp_store.specs.Changing.{face_at, differs}
use Rattle.pp_store.specs.Kept.{Kept}
use Rattle.pp_store.specs.Naming.{AreCandidates}
use Rattle.pp_store.specs.Patterns.{row_in}
use Rattle.pp_store.specs.Queries.{asked_by, goals_in}
use Rattle.pp_store.proofs.Lists.{in_get}
use Rattle.pp_store.proofs.Making.{row_after, sound_after, woken_now}
use Rattle.pp_store.proofs.Numbering.{some_asked}
use Rattle.pp_store.proofs.Opening.{on_err}
use Rattle.pp_store.proofs.Stored.{store_long, face_args, row-count, row_stays, stays_sound}
use Rattle.pp_store.proofs.store.Store.apply.Goals as goal

pub change-requires-clause-below : goal.change-requires-clause-below
change-requires-clause-below c = λ v i. subst (λ m. v < m) (sym (store_long c.args.goals.now c.args.self.now c.self.inside.pattern c.self.view_is c.requires.of_query)) (c.at.ensures.formed.below v i)

pub change-requires-clause-wide : goal.change-requires-clause-wide
change-requires-clause-wide c = λ g e.
    let a = asked_by c.at.result in
    c.requires.given a c.at.ensures.goal ∙ ap (λ (k : Kept). length (face k.row a.goal).domains) (sym c.self.view_is) ∙ ap (λ r. length r.domains) (face_args (row_in c.self.inside.pattern) a.goal g (sym e))

pub naming-requires : goal.naming-requires
naming-requires c = record {
  within = λ v i.
      let l = c.in_ok-change.ensures.meant.touched v (subst (IsIn v) c.as_slice.ensures.keys i) in
      omega (arith, l, store_long c.args.goals.now c.args.self.now c.self.inside.pattern c.self.view_is c.requires.of_query);
}

pub faces-requires-clause-count : goal.faces-requires-clause-count
faces-requires-clause-count c = store_long c.args.goals.now c.args.self.now c.self.inside.pattern c.self.view_is c.requires.of_query

pub faces-requires-clause-goals : goal.faces-requires-clause-goals
faces-requires-clause-goals c = λ k d l. c.in_ok-candidates.ensures.goals (get_or c.deref.result.now k d) (subst (IsIn (get_or c.deref.result.now k d)) c.deref.ensures.value (in_get c.deref.result.now k d l))

pub invariant_of-self : goal.invariant_of-self
invariant_of-self c = stays_sound c.self.inside.pattern c.make.new.self c.self.invariant c.in_err-make.ensures.err

pub returns-in_err-make-clause-err : goal.returns-in_err-make-clause-err
returns-in_err-make-clause-err c = on_err _ _ (inl (row_stays c.self.inside.pattern c.make.new.self c.self.invariant c.in_err-make.ensures.err ∙ ap (λ (k : Kept). k.row) c.self.view_is))

pub changed-requires-clause-sound : goal.changed-requires-clause-sound
changed-requires-clause-sound c = sound_after c.self.inside.pattern c.self.invariant c.at.result.arguments.now c.args.given.now c.in_ok-change.ensures.given c.in_ok-change.change c.in_ok-change.ensures.change c.make.new.self c.in_ok-make.ensures.made

pub changed-requires-clause-count : goal.changed-requires-clause-count
changed-requires-clause-count c = c.in_ok-make.ensures.made.count ∙ store_long c.args.goals.now c.args.self.now c.self.inside.pattern c.self.view_is c.requires.of_query

pub changed-requires-clause-goals : goal.changed-requires-clause-goals
changed-requires-clause-goals c = λ k d l. c.in_ok-candidates.ensures.goals (get_or c.deref-2.result.now k d) (subst (IsIn (get_or c.deref-2.result.now k d)) c.deref-2.ensures.value (in_get c.deref-2.result.now k d l))

pub invariant_of-self-in_err-changed : goal.invariant_of-self-in_err-changed
invariant_of-self-in_err-changed c = sound_after c.self.inside.pattern c.self.invariant c.at.result.arguments.now c.args.given.now c.in_ok-change.ensures.given c.in_ok-change.change c.in_ok-change.ensures.change c.make.new.self c.in_ok-make.ensures.made

pub returns-in_err-changed-clause-of_query : goal.returns-in_err-changed-clause-of_query
returns-in_err-changed-clause-of_query c = row-count c.make.new.self ∙ c.in_ok-make.ensures.made.count ∙ store_long c.args.goals.now c.args.self.now c.self.inside.pattern c.self.view_is c.requires.of_query

pub returns-in_err-changed-clause-err : goal.returns-in_err-changed-clause-err
returns-in_err-changed-clause-err c = on_err _ _ (inr (λ a e.
    row_after c.self.inside.pattern c.self.invariant c.at.result.arguments.now c.args.given.now c.in_ok-change.ensures.given c.in_ok-change.change c.in_ok-change.ensures.change c.make.new.self c.in_ok-make.ensures.made
    a.goal (ap (λ (x : Asked). x.goal.arguments) (some_asked a (asked_by c.at.result) (goals_in c.args.goals.now) c.args.goal e c.at.ensures.goal))
    ∙ ap (λ (k : Kept). apply k.row a.goal c.args.given.now) c.self.view_is))

pub invariant_of-self-2 : goal.invariant_of-self-2
invariant_of-self-2 c = sound_after c.self.inside.pattern c.self.invariant c.at.result.arguments.now c.args.given.now c.in_ok-change.ensures.given c.in_ok-change.change c.in_ok-change.ensures.change c.make.new.self c.in_ok-make.ensures.made

pub returns-clause-store : goal.returns-clause-store
returns-clause-store c = λ a e.
    row_after c.self.inside.pattern c.self.invariant c.at.result.arguments.now c.args.given.now c.in_ok-change.ensures.given c.in_ok-change.change c.in_ok-change.ensures.change c.make.new.self c.in_ok-make.ensures.made
    a.goal (ap (λ (x : Asked). x.goal.arguments) (some_asked a (asked_by c.at.result) (goals_in c.args.goals.now) c.args.goal e c.at.ensures.goal))
    ∙ ap (λ (k : Kept). apply k.row a.goal c.args.given.now) c.self.view_is

pub returns-clause-changed : goal.returns-clause-changed
returns-clause-changed c =
    let p = c.self.inside.pattern in
    let gs = goals_in c.args.goals.now in
    let known = subst (λ ks. AreCandidates c.args.goals.now ks c.in_ok-candidates.candidates.items) c.as_slice.ensures.keys c.in_ok-candidates.ensures in
    let before = c.deref-3.ensures.value ∙ c.in_ok-before.ensures ∙ ap (λ ks. map (face_at gs (row_in p)) ks) (c.deref.ensures.value ∙ sym c.deref-2.ensures.value) in
    c.from_vec.ensures
    ∙ c.in_ok-changed.ensures (row_in p) before
    ∙ ap (λ ks. filter (differs gs (row_in p) (row_in c.make.new.self)) ks) c.deref-2.ensures.value
    ∙ woken_now p c.self.invariant c.at.result.arguments.now c.args.given.now c.in_ok-change.ensures.given c.in_ok-change.change c.in_ok-change.ensures.change c.make.new.self c.in_ok-make.ensures.made c.args.goals.now c.in_ok-candidates.candidates.items known (store_long c.args.goals.now c.args.self.now p c.self.view_is c.requires.of_query)
    ∙ ap (λ (k : Kept). woken k.row (row_in c.make.new.self) [] 1 gs) c.self.view_is

pub returns-clause-of_query : goal.returns-clause-of_query
returns-clause-of_query c = row-count c.make.new.self ∙ c.in_ok-make.ensures.made.count ∙ store_long c.args.goals.now c.args.self.now c.self.inside.pattern c.self.view_is c.requires.of_query
