use Rattle.std.proofs.Common.{◌≡◌, ℤ, List, ◌+◌, ◌++◌, refl, ◌∙◌, ap, arith, pos, take, get_or}
use Rattle.std.proofs.lemmas.Int.{ints}
use Rattle.std.proofs.lemmas.List.{take_rest}
use Rattle.pp_domain.proofs.Positions.{within, begin_word, end_word}
use Rattle.pp_domain.proofs.Without.{IsSplit, split_apart, split_lies, pushed_as}
use Rattle.pp_domain.proofs.places.split_at.Goals as goal

pub overflow_sub-value : goal.overflow_sub-value
overflow_sub-value c =
    let w = within c.args.intervals.now _ _ c.args.place (pos 0, pos 0) c.requires.domain.apart c.requires.place in
    omega (arith, ints, w.above, w.below, c.requires.begins, c.requires.ends)

pub overflow_add-value : goal.overflow_add-value
overflow_add-value c =
    let w = within c.args.intervals.now _ _ c.args.place (pos 0, pos 0) c.requires.domain.apart c.requires.place in
    omega (arith, ints, w.above, w.below, c.requires.begins, c.requires.ends)

split : (c : goal.In_ok-extend_from_slice-2) → IsSplit c.args.intervals.now c.args.place (get_or c.args.intervals.now c.args.place (pos 0, pos 0)) c.args.value c.push_interval.new.intervals.items c.push_interval-2.new.intervals.items c.extend_from_slice-2.new.self.items
split c =
    let ps = c.args.intervals.now in
    let n = c.args.place in
    let w = within ps _ _ n (pos 0, pos 0) c.requires.domain.apart c.requires.place in
    let low = begin_word ps n (pos 0, pos 0) c.requires.domain c.requires.place in
    let high = end_word ps n (pos 0, pos 0) c.requires.domain c.requires.place in
    let first : c.extend_from_slice.new.self.items ≡ take n ps = c.in_ok-extend_from_slice.ensures.items ∙ ap (λ (xs : List (ℤ × ℤ)). xs ++ take n ps) c.in_ok-rest.ensures.items in
    record {
      below = pushed_as _ _ _ _ _ _ _ first low (omega (arith, ints, w.above, w.below, c.requires.begins, c.requires.ends)) (record { some = c.in_ok-push_interval.ensures.some; none = c.in_ok-push_interval.ensures.none });
      above = pushed_as _ _ _ _ _ _ _ refl (omega (arith, ints, w.above, w.below, c.requires.begins, c.requires.ends)) high (record { some = c.in_ok-push_interval-2.ensures.some; none = c.in_ok-push_interval-2.ensures.none });
      all = c.in_ok-extend_from_slice-2.ensures.items ∙ ap (λ (xs : List (ℤ × ℤ)). c.push_interval-2.new.intervals.items ++ xs) (take_rest ps (n + 1));
    }

pub returns-clause-apart : goal.returns-clause-apart
returns-clause-apart c = split_apart c.args.intervals.now c.args.place (pos 0, pos 0) c.args.value _ _ _ c.requires.domain c.requires.place c.requires.begins c.requires.ends (split c)

pub returns-clause-others : goal.returns-clause-others
returns-clause-others c v = split_lies c.args.intervals.now c.args.place (pos 0, pos 0) c.args.value _ _ _ v c.requires.domain c.requires.place c.requires.begins c.requires.ends (split c)
