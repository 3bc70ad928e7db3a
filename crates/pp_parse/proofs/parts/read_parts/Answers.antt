use Rattle.std.proofs.Common.{◌≡◌, ◌+◌, ◌-◌, ◌≤◌, ◌^◌, true, false, suc, length, take, drop, length-drop, get_or, ap, sym, ◌∙◌, subst, arith}
use Rattle.std.specs.Prelude.{All}
use Rattle.pp_language.specs.declared.token.Kind.TheVariants.{Integer}
use Rattle.pp_language.specs.declared.token.Token.{Token}
use Rattle.pp_language.specs.Words.{word}
use Rattle.pp_language.specs.PartsOf.{step}
use Rattle.pp_parse.specs.Words.{words_of, named_in, blanks_by, blanks_in}
use Rattle.pp_parse.proofs.KnownTexts.{Known, all_few, texts_known, named_known, firsts_known, blanks_at, within}
use Rattle.pp_parse.proofs.GroupSizes.{groups_small, spelled_words, spelled_drop}
use Rattle.pp_parse.proofs.SentenceRead.{at_end, goes_on, stops, words_length, word_here, moved, answered, start_read, finished}
use Rattle.pp_parse.proofs.parts.read_parts.Goals as goal

abbrev no_token : Token
no_token = record { kind = Integer; first = 0; last = 0 }

pub overflow_cast-next : goal.overflow_cast-next
overflow_cast-next c =
    let ws = words_of c.args.text.now c.args.tokens.now in
    let few : length c.args.variables.now.named + blanks_in ws ≤ length ws = subst (λ xs. length xs + blanks_in ws ≤ length ws) (sym c.requires.named) (all_few ws) in
    omega (arith, words_length c.args.text.now c.args.tokens.now, c.len.ensures.len)

pub overflow_add-next : goal.overflow_add-next
overflow_add-next c =
    let ws = words_of c.args.text.now c.args.tokens.now in
    let few : length c.args.variables.now.named + blanks_in ws ≤ length ws = subst (λ xs. length xs + blanks_in ws ≤ length ws) (sym c.requires.named) (all_few ws) in
    omega (arith, words_length c.args.text.now c.args.tokens.now, c.len.ensures.len, c.requires.blanks)

pub loop-i-init : goal.loop-i-init
loop-i-init c =
    let ws = words_of c.args.text.now c.args.tokens.now in
    at_end c.args.names.now c.args.variables.now.named ws _ _ _ (sym (words_length c.args.text.now c.args.tokens.now)) (ap (λ n. n + c.args.variables.now.blanks) c.len.ensures.len ∙ ap (λ n. length c.args.variables.now.named + n) c.requires.blanks) (c.new-reading.ensures c.args.names.now c.args.variables.now.named _ _)

pub leaf_of-requires-clause-names : goal.leaf_of-requires-clause-names
leaf_of-requires-clause-names c =
    let j = c.loop-i.i - 1 in
    let here = word_here c.args.text.now c.args.tokens.now j no_token c.text_of-written.result.now (omega arith) c.text_of-written.ensures in
    texts_known (Known c.args.names.now) (words_of c.args.text.now c.args.tokens.now) _ _ j here c.requires.names

pub leaf_of-requires-clause-named : goal.leaf_of-requires-clause-named
leaf_of-requires-clause-named c =
    let j = c.loop-i.i - 1 in
    let ws = words_of c.args.text.now c.args.tokens.now in
    let here = word_here c.args.text.now c.args.tokens.now j no_token c.text_of-written.result.now (omega arith) c.text_of-written.ensures in
    named_known (Known c.args.variables.now.named) ws _ _ j here (subst (λ xs. All (Known xs) (named_in ws)) (sym c.requires.named) (firsts_known (named_in ws)))

pub leaf_of-requires-clause-next : goal.leaf_of-requires-clause-next
leaf_of-requires-clause-next c =
    let j = c.loop-i.i - 1 in
    let ws = words_of c.args.text.now c.args.tokens.now in
    let here = word_here c.args.text.now c.args.tokens.now j no_token c.text_of-written.result.now (omega arith) c.text_of-written.ensures in
    let up : suc j ≡ c.loop-i.i = omega arith in
    within c.loop-i.next (length c.args.variables.now.named) _ _ _ (c.loop-i.invariant.counts ∙ ap (λ k. length c.args.variables.now.named + blanks_in (take k ws)) (sym up)) (blanks_at ws _ _ j here)

pub take-requires : goal.take-requires
take-requires c =
    let ws = words_of c.args.text.now c.args.tokens.now in
    let s = c.loop-i.invariant in
    groups_small (drop c.loop-i.i ws) s.so_far c.loop-i.reading.groups.items (2 ^ 32) (spelled_drop c.loop-i.i ws (spelled_words c.args.text.now c.args.tokens.now c.requires.tokens)) s.read s.holds.groups_are (omega (arith, length-drop c.loop-i.i ws, words_length c.args.text.now c.args.tokens.now))

pub returns-then-not-branch : goal.returns-then-not-branch
returns-then-not-branch c =
    let names = c.args.names.now in
    let named = c.args.variables.now.named in
    let j = c.loop-i.i - 1 in
    let ws = words_of c.args.text.now c.args.tokens.now in
    let w = word (get_or c.args.tokens.now j no_token).kind c.text_of-written.result.now in
    let s = c.loop-i.invariant in
    let new = c.leaf_of.new.next in
    let here = word_here c.args.text.now c.args.tokens.now j no_token c.text_of-written.result.now (omega arith) c.text_of-written.ensures in
    let up : c.loop-i.i ≡ suc j = omega arith in
    let on : c.loop-i.i ≡ j + 1 = omega arith in
    let old = moved names named c.loop-i.next (new + blanks_by w.kind w.text) c.loop-i.i (j + 1) s.so_far c.loop-i.reading (sym c.in_ok-leaf.ensures.next) on s.holds in
    stops names named ws j c.loop-i.i w up here new c.loop-i.next c.loop-i.reading c.take.new.self s
    (answered names named new j (step w s.so_far) c.in_ok-take.field-0 false c.take.new.self c.if-not-branch.true (c.in_ok-take.ensures names named new s.so_far w c.in_ok-leaf.ensures.leaf old))

pub loop-i-preserved : goal.loop-i-preserved
loop-i-preserved c =
    let names = c.args.names.now in
    let named = c.args.variables.now.named in
    let j = c.loop-i.i - 1 in
    let ws = words_of c.args.text.now c.args.tokens.now in
    let w = word (get_or c.args.tokens.now j no_token).kind c.text_of-written.result.now in
    let s = c.loop-i.invariant in
    let new = c.leaf_of.new.next in
    let here = word_here c.args.text.now c.args.tokens.now j no_token c.text_of-written.result.now (omega arith) c.text_of-written.ensures in
    let up : c.loop-i.i ≡ suc j = omega arith in
    let on : c.loop-i.i ≡ j + 1 = omega arith in
    let old = moved names named c.loop-i.next (new + blanks_by w.kind w.text) c.loop-i.i (j + 1) s.so_far c.loop-i.reading (sym c.in_ok-leaf.ensures.next) on s.holds in
    goes_on names named ws j c.loop-i.i w up here c.loop-i.next new c.loop-i.reading c.take.new.self s c.in_ok-leaf.ensures.next
    (answered names named new j (step w s.so_far) c.in_ok-take.field-0 true c.take.new.self c.if-not-branch.false (c.in_ok-take.ensures names named new s.so_far w c.in_ok-leaf.ensures.leaf old))

pub returns : goal.returns
returns c =
    let names = c.args.names.now in
    let named = c.args.variables.now.named in
    let ws = words_of c.args.text.now c.args.tokens.now in
    let start = start_read names named ws c.loop-i.i c.loop-i.next c.loop-i.reading (omega arith) c.loop-i.invariant in
    finished names named ws c.loop-i.next c.loop-i.reading start c.finish.result (c.finish.ensures names named c.loop-i.next 0 start.so_far start.holds)
