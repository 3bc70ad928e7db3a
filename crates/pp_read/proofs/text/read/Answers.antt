use Rattle.std.proofs.Common.{◌≡◌, ◌≤◌, length, false, refl, sym, subst, arith, inl, inr, ⊎_elim}
use Rattle.pp_language.specs.Sentences.{clean, AreSentences}
use Rattle.std.specs.Prelude.{◌⊎◌}
use Rattle.std.proofs.lemmas.Result.{err_from_is_err_and}
use Rattle.pp_lex.specs.Readings.{tokens_of, ending_of}
use Rattle.pp_read.proofs.WholeTexts.{names_known, passes, few_clauses, writes}
use Rattle.pp_read.proofs.WholeFaults.{sentences_short, sentences_few, early_fault, late_fault, tail_differs, tail_is_clean}
use Rattle.pp_read.proofs.text.read.Goals as goal

pub read_all-requires-clause-few : goal.read_all-requires-clause-few
read_all-requires-clause-few c =
    let text = c.args.text.now in
    let e = ending_of c.in_ok-found.found.tail in
    let exact = subst (λ l. AreSentences text (tokens_of l) e) (sym c.as_slice-list.ensures) c.in_ok-found.ensures.exact in
    sentences_short text c.as_slice-list.result.now e c.requires exact

pub read_all-requires-clause-count : goal.read_all-requires-clause-count
read_all-requires-clause-count c =
    let text = c.args.text.now in
    let e = ending_of c.in_ok-found.found.tail in
    let exact = subst (λ l. AreSentences text (tokens_of l) e) (sym c.as_slice-list.ensures) c.in_ok-found.ensures.exact in
    let few = sentences_few text c.as_slice-list.result.now e c.requires exact in
    omega (arith, few)

pub read_all-requires-clause-names : goal.read_all-requires-clause-names
read_all-requires-clause-names c = names_known c.in_ok-names.names c.args.text.now c.as_slice-list.result.now c.in_ok-names.ensures

pub returns-in_err-clauses-clause-fault : goal.returns-in_err-clauses-clause-fault
returns-in_err-clauses-clause-fault c =
    let text = c.args.text.now in
    let e = ending_of c.in_ok-found.found.tail in
    let exact = subst (λ l. AreSentences text (tokens_of l) e) (sym c.as_slice-list.ensures) c.in_ok-found.ensures.exact in
    let p = err_from_is_err_and c.from_residual-in_err-clauses.result c.from_residual-in_err-clauses.ensures.1 in
    let early = early_fault text c.as_slice-list.result.now e c.in_err-clauses.field-0.0 exact c.in_err-clauses.ensures.fault in
    rw (p.1, p.2) early

pub overflow_cast-result : goal.overflow_cast-result
overflow_cast-result c =
    let text = c.args.text.now in
    let e = ending_of c.in_ok-found.found.tail in
    let exact = subst (λ l. AreSentences text (tokens_of l) e) (sym c.as_slice-list.ensures) c.in_ok-found.ensures.exact in
    let few = sentences_few text c.as_slice-list.result.now e c.requires exact in
    omega (arith, few)

pub overflow_add-result : goal.overflow_add-result
overflow_add-result c =
    let text = c.args.text.now in
    let e = ending_of c.in_ok-found.found.tail in
    let exact = subst (λ l. AreSentences text (tokens_of l) e) (sym c.as_slice-list.ensures) c.in_ok-found.ensures.exact in
    let few = sentences_few text c.as_slice-list.result.now e c.requires exact in
    omega (arith, few)

pub returns-then-ne-clause-fault : goal.returns-then-ne-clause-fault
returns-then-ne-clause-fault c =
    let text = c.args.text.now in
    let tail = c.in_ok-found.found.tail in
    let e = ending_of tail in
    let exact = subst (λ l. AreSentences text (tokens_of l) e) (sym c.as_slice-list.ensures) c.in_ok-found.ensures.exact in
    let why : (e ≡ clean → ⊥) ⊎ (c.in_ok-clauses.field-0.asked ≡ false) = ⊎_elim (λ d. inl (tail_differs tail c.ne.result c.ne.ensures d)) (λ d. inr d.1) c.then-ne.either in
    late_fault text c.as_slice-list.result.now e c.in_ok-names.names c.in_ok-clauses.field-0 exact c.in_ok-clauses.ensures.read why

pub returns-in-Some-clause-fault : goal.returns-in-Some-clause-fault
returns-in-Some-clause-fault c =
    let text = c.args.text.now in
    let tail = c.in_ok-found.found.tail in
    let exact = subst (λ l. AreSentences text (tokens_of l) (ending_of tail)) (sym c.as_slice-list.ensures) c.in_ok-found.ensures.exact in
    let whole = subst (AreSentences text (tokens_of c.as_slice-list.result.now)) (tail_is_clean tail c.ne.result c.ne.ensures c.if-ne.false) exact in
    passes text c.as_slice-list.result.now c.in_ok-names.names c.in_ok-clauses.field-0 c.in_ok-names.ensures c.in_ok-clauses.ensures.read whole c.if-not-asked.false c.in-Some.which c.in-Some.is

pub returns-clause-written : goal.returns-clause-written
returns-clause-written c =
    let text = c.args.text.now in
    let tail = c.in_ok-found.found.tail in
    let exact = subst (λ l. AreSentences text (tokens_of l) (ending_of tail)) (sym c.as_slice-list.ensures) c.in_ok-found.ensures.exact in
    let whole = subst (AreSentences text (tokens_of c.as_slice-list.result.now)) (tail_is_clean tail c.ne.result c.ne.ensures c.if-ne.false) exact in
    writes text c.as_slice-list.result.now c.in_ok-names.names c.in_ok-clauses.field-0 c.in_ok-names.ensures c.in_ok-clauses.ensures.read whole c.if-not-asked.false c.in_default.is c.in-Some-query.query c.in-Some-query.is _ refl c.from_vec.ensures refl

pub returns-clause-few_clauses : goal.returns-clause-few_clauses
returns-clause-few_clauses c =
    let few = few_clauses c.args.text.now c.as_slice-list.result.now c.in_ok-names.names c.in_ok-clauses.field-0 c.in_ok-names.ensures c.in_ok-clauses.ensures.read c.in_default.is in
    subst (λ xs. length xs ≤ 65535) (sym c.from_vec.ensures) few
