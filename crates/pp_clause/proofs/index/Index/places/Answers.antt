use Rattle.std.proofs.Common.{◌<◌, ap, sym, ◌∙◌, length, [], get_or, arith}
use Rattle.std.proofs.Math.ListN.{length-map}
use Rattle.std.proofs.lemmas.List.{get_or-map}
use Rattle.pp_clause.specs.Index.{lists_of, places_of}
use Rattle.pp_clause.proofs.Tops.{found_at, not_found}
use Rattle.pp_clause.proofs.index.Index.places.Goals as goal

pub returns-in-Some : goal.returns-in-Some
returns-in-Some c =
    let s = c.self.inside in
    let lists = s.lists.items in
    let x = c.index.result.now in
    let at = c.in-Some.at in
    let e = found_at s.keys.keys c.args.first at c.in-Some.ensures.index in
    let l : at < length lists = omega (arith, c.in-Some.ensures.within, c.self.invariant.1.enough, length-map lists (λ v. v.items)) in
    c.as_slice.ensures.value ∙ ap (λ v. v.items) c.index.ensures ∙ sym (get_or-map (λ v. v.items) lists at x [] l)
    ∙ ap (λ n. get_or (lists_of lists) n []) e ∙ c.self.invariant.1.listed c.args.first ∙ ap (places_of c.args.first 0) c.self.view_is

pub returns-in-None : goal.returns-in-None
returns-in-None c =
    let s = c.self.inside in
    let e = not_found s.keys.keys c.args.first c.in-None.ensures.found in
    sym (c.self.invariant.1.others (length s.keys.keys) (omega arith)) ∙ ap (λ n. get_or (lists_of s.lists.items) n []) (sym e) ∙ c.self.invariant.1.listed c.args.first ∙ ap (places_of c.args.first 0) c.self.view_is
