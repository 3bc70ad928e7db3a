use Rattle.std.proofs.Common.{◌≡◌, ◌+◌, ◌-◌, ◌<◌, ◌^◌, ◌++◌, ◌∷◌, [], length, map, set, ap, sym, ◌∙◌, subst, arith, rules, refl}
use Rattle.pp_clause.specs.Table.{pred_of, IsTable}
use Rattle.pp_clause.proofs.Numbers.{grown_none, grown_more}
use Rattle.pp_term.specs.Meanings.{predicate_of, program}
use Rattle.pp_row.specs.Columns.{trees_of}
use Rattle.std.proofs.Math.ListN.{length-map}
use Rattle.std.proofs.lemmas.Option.{slice_get_read}
use Rattle.pp_clause.specs.Firsts.{first_of}
use Rattle.pp_clause.proofs.Groups.{place-within, with_clause}
use Rattle.pp_clause.proofs.Tables.{exit, adds_none, added, place_is, same_set}
use Rattle.pp_clause.proofs.clauses.Clauses.add.Goals as goal

pub invariant_of-self : goal.invariant_of-self
invariant_of-self c =
    let s = c.self.inside in
    let k : c.len.result ≡ length s.clauses.items = search rules in
    exit s.clauses.items s.predicates.keys s.known s.groups.items s.cells.items s.coded.items c.self.invariant c.truncate.new.self.keys c.truncate-2.new.self.items c.len.result c.truncate.ensures.keys c.truncate-2.ensures.items k
    s.groups.items s.cells.items (adds_none s.groups.items) (grown_none s.cells.items) (map pred_of c.truncate.new.self.keys) c.truncate-2.new.self.items (grown_none (map pred_of c.truncate.new.self.keys)) (grown_none c.truncate-2.new.self.items)

pub invariant_of-self-in_err-coded : goal.invariant_of-self-in_err-coded
invariant_of-self-in_err-coded c =
    let s = c.self.inside in
    let k : c.len.result ≡ length s.clauses.items = search rules in
    exit s.clauses.items s.predicates.keys s.known s.groups.items s.cells.items s.coded.items c.self.invariant c.truncate.new.self.keys c.truncate-2.new.self.items c.len.result c.truncate.ensures.keys c.truncate-2.ensures.items k
    s.groups.items c.code_clause.new.cells.items (adds_none s.groups.items) c.code_clause.ensures.cells (map pred_of c.code_clause.new.predicates.keys) c.truncate-2.new.self.items c.code_clause.ensures.grown (grown_none c.truncate-2.new.self.items)

pub invariant_of-self-in_err-known : goal.invariant_of-self-in_err-known
invariant_of-self-in_err-known c =
    let s = c.self.inside in
    let k : c.len.result ≡ length s.clauses.items = search rules in
    exit s.clauses.items s.predicates.keys s.known s.groups.items s.cells.items s.coded.items c.self.invariant c.truncate.new.self.keys c.truncate-2.new.self.items c.len.result c.truncate.ensures.keys c.truncate-2.ensures.items k
    s.groups.items c.code_clause.new.cells.items (adds_none s.groups.items) c.code_clause.ensures.cells (map pred_of c.code_clause.new.predicates.keys) c.truncate-2.new.self.items c.code_clause.ensures.grown (grown_none c.truncate-2.new.self.items)

pub invariant_of-self-in_err-make_groups : goal.invariant_of-self-in_err-make_groups
invariant_of-self-in_err-make_groups c =
    let s = c.self.inside in
    let k : c.len.result ≡ length s.clauses.items = search rules in
    exit s.clauses.items s.predicates.keys s.known s.groups.items s.cells.items s.coded.items c.self.invariant c.truncate.new.self.keys c.truncate-2.new.self.items c.len.result c.truncate.ensures.keys c.truncate-2.ensures.items k
    c.make_groups.new.groups.items c.code_clause.new.cells.items c.make_groups.ensures.added c.code_clause.ensures.cells (map pred_of c.code_clause.new.predicates.keys) c.truncate-2.new.self.items c.code_clause.ensures.grown (grown_none c.truncate-2.new.self.items)

pub invariant_of-self-in_err-push : goal.invariant_of-self-in_err-push
invariant_of-self-in_err-push c =
    let s = c.self.inside in
    let k : c.len.result ≡ length s.clauses.items = search rules in
    subst (IsTable s.clauses.items (map pred_of c.code_clause.new.predicates.keys) s.known c.make_groups.new.groups.items c.code_clause.new.cells.items) (sym c.in_err-push.ensures.items)
    (exit s.clauses.items s.predicates.keys s.known s.groups.items s.cells.items s.coded.items c.self.invariant c.truncate.new.self.keys c.truncate-2.new.self.items c.len.result c.truncate.ensures.keys c.truncate-2.ensures.items k
    c.make_groups.new.groups.items c.code_clause.new.cells.items c.make_groups.ensures.added c.code_clause.ensures.cells (map pred_of c.code_clause.new.predicates.keys) c.truncate-2.new.self.items c.code_clause.ensures.grown (grown_none c.truncate-2.new.self.items))

pub invariant_of-self-in_err-reserve : goal.invariant_of-self-in_err-reserve
invariant_of-self-in_err-reserve c =
    let s = c.self.inside in
    let k : c.len.result ≡ length s.clauses.items = search rules in
    subst (λ cs. IsTable cs (map pred_of c.code_clause.new.predicates.keys) s.known c.make_groups.new.groups.items c.code_clause.new.cells.items c.push.new.self.items) (sym c.reserve.ensures.items)
    (exit s.clauses.items s.predicates.keys s.known s.groups.items s.cells.items s.coded.items c.self.invariant c.truncate.new.self.keys c.truncate-2.new.self.items c.len.result c.truncate.ensures.keys c.truncate-2.ensures.items k
    c.make_groups.new.groups.items c.code_clause.new.cells.items c.make_groups.ensures.added c.code_clause.ensures.cells (map pred_of c.code_clause.new.predicates.keys) c.push.new.self.items c.code_clause.ensures.grown (grown_more c.truncate-2.new.self.items c.push.new.self.items (c.in_ok-coded.coded ∷ []) c.in_ok-push.ensures.items))

pub index_mut-requires : goal.index_mut-requires
index_mut-requires c =
    let keys = c.code_clause.new.predicates.keys in
    let i = c.in_ok-coded.ensures.predicate in
    let known : c.in_ok-known.known ≡ length keys = search rules in
    let w = place-within c.args.clause.pred (map pred_of keys) i.is_there in
    omega (arith, w, i.number, known, length-map keys pred_of, c.in_ok-make_groups.ensures.enough)

pub invariant_of-self-in_err-place : goal.invariant_of-self-in_err-place
invariant_of-self-in_err-place c =
    let s = c.self.inside in
    let k : c.len.result ≡ length s.clauses.items = search rules in
    let same : set c.make_groups.new.groups.items c.in_ok-coded.coded.predicate c.push-2.new.self ≡ c.make_groups.new.groups.items = same_set c.make_groups.new.groups.items c.in_ok-coded.coded.predicate c.index_mut.result.now c.push-2.new.self c.index_mut.ensures.value c.in_err-place.ensures.err in
    subst (λ gs. IsTable c.reserve.new.self.items (map pred_of c.code_clause.new.predicates.keys) s.known gs c.code_clause.new.cells.items c.push.new.self.items) (sym same)
    (subst (λ cs. IsTable cs (map pred_of c.code_clause.new.predicates.keys) s.known c.make_groups.new.groups.items c.code_clause.new.cells.items c.push.new.self.items) (sym c.reserve.ensures.items)
    (exit s.clauses.items s.predicates.keys s.known s.groups.items s.cells.items s.coded.items c.self.invariant c.truncate.new.self.keys c.truncate-2.new.self.items c.len.result c.truncate.ensures.keys c.truncate-2.ensures.items k
    c.make_groups.new.groups.items c.code_clause.new.cells.items c.make_groups.ensures.added c.code_clause.ensures.cells (map pred_of c.code_clause.new.predicates.keys) c.push.new.self.items c.code_clause.ensures.grown (grown_more c.truncate-2.new.self.items c.push.new.self.items (c.in_ok-coded.coded ∷ []) c.in_ok-push.ensures.items)))

pub invariant_of-self-2 : goal.invariant_of-self-2
invariant_of-self-2 c =
    let s = c.self.inside in
    let keys = c.code_clause.new.predicates.keys in
    let hs = c.make_groups.new.groups.items in
    let at = c.in_ok-coded.coded.predicate in
    let f = c.index_mut.result.now in
    let k : c.len.result ≡ length s.clauses.items = search rules in
    let number : c.in_ok-number.field-0 - 1 ≡ length s.clauses.items = search rules in
    let few : length s.clauses.items + 1 < 2 ^ 32 = search rules in
    let i = c.in_ok-coded.ensures.predicate in
    let known : c.in_ok-known.known ≡ length keys = search rules in
    let there = place-within c.args.clause.pred (map pred_of keys) i.is_there in
    let within : at < length hs = omega (arith, there, i.number, known, length-map keys pred_of, c.in_ok-make_groups.ensures.enough) in
    let w : c.push-2.new.self ≡ with_clause s.clauses.items c.args.clause f = c.in_ok-place.ensures.added ∙ (λ j. (f.0 ++ number j ∷ [], f.1 ++ (c.first.ensures ∙ ap (λ ts. first_of (trees_of ts)) c.as_slice.ensures) j ∷ [])) in
    let t = added s.clauses.items s.predicates.keys s.known s.groups.items s.cells.items s.coded.items c.self.invariant c.truncate.new.self.keys c.truncate-2.new.self.items c.len.result c.truncate.ensures.keys c.truncate-2.ensures.items k
    hs c.code_clause.new.cells.items c.make_groups.ensures.added c.code_clause.ensures.cells c.args.clause keys at f c.in_ok-coded.ensures.predicates c.in_ok-coded.ensures.predicate (slice_get_read hs (length hs) at f refl within c.index_mut.ensures.value)
    c.in_ok-known.known c.in_ok-coded.coded c.push-2.new.self known c.in_ok-make_groups.ensures.enough c.in_ok-coded.ensures.clause w c.requires.clause few in
    let items : c.push-3.new.self.items ≡ s.clauses.items ++ c.args.clause ∷ [] = c.in_ok-push-2.ensures.items ∙ ap (λ cs. cs ++ c.args.clause ∷ []) c.reserve.ensures.items in
    subst (λ cs. IsTable cs (map pred_of keys) c.in_ok-known.known (set hs at c.push-2.new.self) c.code_clause.new.cells.items c.push.new.self.items) (sym items)
    (subst (IsTable (s.clauses.items ++ c.args.clause ∷ []) (map pred_of keys) c.in_ok-known.known (set hs at c.push-2.new.self) c.code_clause.new.cells.items) (sym c.in_ok-push.ensures.items) t)

pub returns-clause-place : goal.returns-clause-place
returns-clause-place c =
    let s = c.self.inside in
    let keys = c.code_clause.new.predicates.keys in
    let hs = c.make_groups.new.groups.items in
    let at = c.in_ok-coded.coded.predicate in
    let f = c.index_mut.result.now in
    let k : c.len.result ≡ length s.clauses.items = search rules in
    let i = c.in_ok-coded.ensures.predicate in
    let known : c.in_ok-known.known ≡ length keys = search rules in
    let there = place-within c.args.clause.pred (map pred_of keys) i.is_there in
    let within : at < length hs = omega (arith, there, i.number, known, length-map keys pred_of, c.in_ok-make_groups.ensures.enough) in
    c.in_ok-place.ensures.place
    ∙ place_is s.clauses.items s.predicates.keys s.known s.groups.items s.cells.items s.coded.items c.self.invariant c.truncate.new.self.keys c.truncate-2.new.self.items c.len.result c.truncate.ensures.keys c.truncate-2.ensures.items k
    hs c.code_clause.new.cells.items c.make_groups.ensures.added c.code_clause.ensures.cells c.args.clause keys at f c.in_ok-coded.ensures.predicates c.in_ok-coded.ensures.predicate (slice_get_read hs (length hs) at f refl within c.index_mut.ensures.value)
    ∙ ap (λ cs. length (program cs (predicate_of c.args.clause.pred))) c.self.view_is
