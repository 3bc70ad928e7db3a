use Rattle.std.proofs.Common.{◌≡◌, ◌<◌, ◌++◌, ◌∷◌, [], length, set, cond, ap, sym, ◌∙◌, subst, arith}
use Rattle.std.specs.List.{list_any, position_or_len}
use Rattle.std.proofs.Math.ListN.{length-map}
use Rattle.std.proofs.lemmas.List.{set-get_or}
use Rattle.pp_clause.specs.Index.{lists_of, IsIndex}
use Rattle.pp_clause.proofs.Tops.{eq_same, keyed, noted, at_below, on_err, item_at, lists-set}
use Rattle.pp_clause.proofs.index.note.Goals as goal

pub index_mut-requires : goal.index_mut-requires
index_mut-requires c =
    let n = at_below c.in_ok-at.at (length c.insert_full.new.self.keys) (length c.args.keys.now.keys) c.in_ok-at.field-0-1 c.in_ok-at.ensures.within c.in_ok-at.ensures.len in
    let r : length c.args.keys.now.keys < length c.make_room.new.lists.items = (let m = c.in_ok-make_room.ensures.room (omega (arith, c.len.ensures.len, c.requires)) in omega (arith, m, c.len.ensures.len)) in
    omega (arith, n, r)

pub returns-in_err-push-clause-err : goal.returns-in_err-push-clause-err
returns-in_err-push-clause-err c = on_err c.from_residual-in_err-push.result (λ ts h k.
    let keys = c.args.keys.now.keys in
    let new = c.insert_full.new.self.keys in
    let room = c.make_room.new.lists.items in
    let at = c.in_ok-at.at in
    let l : length keys < length room = (let m = c.in_ok-make_room.ensures.room (omega (arith, c.len.ensures.len, c.requires)) in omega (arith, m, c.len.ensures.len)) in
    let within : at < length room = (let n = at_below at (length new) (length keys) c.in_ok-at.field-0-1 c.in_ok-at.ensures.within c.in_ok-at.ensures.len in omega (arith, n, l)) in
    let e = subst (λ d. new ≡ cond (list_any (d c.args.first) keys) keys (keys ++ c.args.first ∷ [])) eq_same c.in_ok-at.ensures.keys in
    let a = subst (λ d. at ≡ position_or_len (d c.args.first) keys) eq_same c.in_ok-at.ensures.index in
    let x = c.in_err-push.ensures.items ∙ item_at room at c.index_mut.result.now within c.index_mut.ensures.value in
    let same : lists_of (set room at c.push.new.self) ≡ lists_of room = lists-set room at c.push.new.self ∙ ap (set (lists_of room) at) x ∙ set-get_or (lists_of room) at [] in
    subst (λ ls. IsIndex new ls ts) (sym same)
    (keyed keys new (lists_of c.args.lists.now.items) (lists_of room) ts c.args.first at h (omega (arith, c.make_room.ensures.longer, length-map c.args.lists.now.items (λ v. v.items), length-map room (λ v. v.items))) c.make_room.ensures.same e a (omega (arith, l, length-map room (λ v. v.items)))))

pub returns-clause-noted : goal.returns-clause-noted
returns-clause-noted c = λ ts h k.
    let keys = c.args.keys.now.keys in
    let new = c.insert_full.new.self.keys in
    let room = c.make_room.new.lists.items in
    let at = c.in_ok-at.at in
    let l : length keys < length room = (let m = c.in_ok-make_room.ensures.room (omega (arith, c.len.ensures.len, c.requires)) in omega (arith, m, c.len.ensures.len)) in
    let within : at < length room = (let n = at_below at (length new) (length keys) c.in_ok-at.field-0-1 c.in_ok-at.ensures.within c.in_ok-at.ensures.len in omega (arith, n, l)) in
    let e = subst (λ d. new ≡ cond (list_any (d c.args.first) keys) keys (keys ++ c.args.first ∷ [])) eq_same c.in_ok-at.ensures.keys in
    let a = subst (λ d. at ≡ position_or_len (d c.args.first) keys) eq_same c.in_ok-at.ensures.index in
    let x = c.in_ok-push.ensures.items ∙ ap (λ xs. xs ++ c.args.place ∷ []) (item_at room at c.index_mut.result.now within c.index_mut.ensures.value) in
    subst (λ ls. IsIndex new ls (ts ++ c.args.first ∷ [])) (sym (lists-set room at c.push.new.self))
    (noted keys new (lists_of c.args.lists.now.items) (lists_of room) ts c.args.first at h (omega (arith, c.make_room.ensures.longer, length-map c.args.lists.now.items (λ v. v.items), length-map room (λ v. v.items))) c.make_room.ensures.same e a (omega (arith, l, length-map room (λ v. v.items))) c.args.place c.push.new.self.items k x)
