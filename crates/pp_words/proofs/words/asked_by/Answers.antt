use Rattle.std.proofs.Common.{◌∙◌, sym, refl, ◌-◌, length, take, drop}
use Rattle.std.specs.Prelude.{string_bytes}
use Rattle.std.proofs.lemmas.List.Folds.{list_all-map}
use Rattle.clap.specs.Words.{rows_of, found_of}
use Rattle.pp_line.specs.Kept.{is_open}
use Rattle.pp_words.proofs.Asked.{rest_of, not_open, was_read}
use Rattle.pp_words.proofs.words.asked_by.Goals as goal

pub returns-then-not-are_open : goal.returns-then-not-are_open
returns-then-not-are_open c =
    not_open _ _ (string_bytes c.name-item.result)
    (rest_of string_bytes c.args.words.now c.name-item.result (string_bytes c.name-item.result) c.in-len1-up.len_at_least c.name-item.is refl)
    (list_all-map is_open string_bytes (take (length c.args.words.now - 1) (drop 1 c.args.words.now)) ∙ sym c.are_open.ensures ∙ c.if-not-are_open.true)

pub returns-in-Some : goal.returns-in-Some
returns-in-Some c =
    was_read _ _ c.as_bytes.result.now (rows_of (found_of c.in_ok-matches.matches)) _
    (rest_of string_bytes c.args.words.now c.name-item.result c.as_bytes.result.now c.in-len1-up.len_at_least c.name-item.is c.as_bytes.ensures.value)
    (list_all-map is_open string_bytes (take (length c.args.words.now - 1) (drop 1 c.args.words.now)) ∙ sym c.are_open.ensures ∙ c.if-not-are_open.false)
    c.in_ok-matches.ensures.taken (sym c.in-Some.is ∙ c.command.ensures)
