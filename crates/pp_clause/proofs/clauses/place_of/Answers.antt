use Rattle.std.proofs.Common.{map, ◌∙◌, sym}
use Rattle.std.proofs.Math.ListN.{length-map}
use Rattle.pp_row.proofs.Keys.{has_none, place_past, position_place, position_some}
use Rattle.pp_clause.specs.Predicates.{same_pred}
use Rattle.pp_clause.specs.Table.{pred_of}
use Rattle.pp_clause.proofs.Numbers.{same_pred-IsSame}
use Rattle.pp_clause.proofs.clauses.place_of.Goals as goal

pub returns-in-Some : goal.returns-in-Some
returns-in-Some c =
    let keys = c.args.predicates.now.keys in
    position_some _ keys c.in-Some.place c.in-Some.ensures.index ∙ position_place same_pred same_pred-IsSame pred_of keys c.args.pred

pub returns-in-None : goal.returns-in-None
returns-in-None c =
    let keys = c.args.predicates.now.keys in
    c.len.ensures.len ∙ sym (length-map keys pred_of) ∙ sym (place_past same_pred (map pred_of keys) c.args.pred (has_none same_pred same_pred-IsSame pred_of keys c.args.pred c.in-None.ensures.found))
