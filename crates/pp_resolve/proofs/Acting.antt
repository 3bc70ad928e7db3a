-- What is done with a goal that is lent.
use Rattle.std.proofs.Common.{◌≡◌, ℕ, Bool, List, map, All, Some, refl, ap, sym, ◌∙◌, subst}
use Rattle.std.proofs.lemmas.List.Elements.{All-nil}
use Rattle.pp_algebra.specs.Terms.{Trees, put_all, count}
use Rattle.pp_algebra.specs.Rows.{Row}
use Rattle.pp_sld.specs.Goals as goals
use Rattle.pp_sld.specs.Goals.{Goal, put_goal}
use Rattle.pp_sld.specs.Selection.{act_by, solves}
use Rattle.pp_term.specs.declared.clause.Clause.{Clause}
use Rattle.pp_row.specs.Reading.{forest}
use Rattle.pp_clause.specs.Goals.{Asks}
use Rattle.pp_clause.specs.declared.goal_at.GoalAt.{GoalAt}
use Rattle.pp_clause.specs.declared.goal_at.Kind.{Kind}
use Rattle.pp_clause.specs.declared.goal_at.Kind.TheVariants as kinds
use Rattle.pp_unify.specs.States.{value_in}
use Rattle.pp_unify.specs.Laws.{item_in, IsItemOver}
use Rattle.pp_unify.specs.Forests.{counted_all, AreOver, AreDecided}
use Rattle.pp_goal.proofs.Acting.{both_sides-over, first_in-over, at_place-over}
use Rattle.pp_goal.specs.declared.acts.Act.{Act}
use Rattle.pp_goal.specs.declared.acts.Act.TheVariants.{Wait, Fail, Hold, Equate, Narrow, Bind, Split, Call}
use Rattle.pp_goal.specs.Arguments.{terms_of, terms_in}
use Rattle.pp_goal.specs.Acts.{narrowed, items, IsAct, IsReady}
use Rattle.pp_resolve.specs.Standing.{counted}
use Rattle.pp_resolve.specs.Shown.{IsShown}
use Rattle.pp_resolve.specs.Acts.{does, narrowed_by, items_by, ActsAs}

same_narrowed : (cs : List Clause) (k : Kind) (s : goals.Shape) (ts : Trees ℕ) → Asks cs k s → narrowed k ts ≡ narrowed_by s ts
same_narrowed cs (kinds.User n) s ts a = sym (ap (λ x. narrowed_by x ts) a.2)
same_narrowed cs kinds.Equate s ts a = sym (ap (λ x. narrowed_by x ts) a)
same_narrowed cs (kinds.Member d) s ts a = sym (ap (λ x. narrowed_by x ts) a)
same_narrowed cs (kinds.Test t) s ts a = sym (ap (λ x. narrowed_by x ts) a)

pub same_items : (cs : List Clause) (k : Kind) (s : goals.Shape) (ts : Trees ℕ) (a : Act) → Asks cs k s → items k ts a ≡ items_by s ts a
same_items cs k s ts Wait h = refl
same_items cs k s ts Fail h = refl
same_items cs k s ts Hold h = refl
same_items cs k s ts Equate h = refl
same_items cs k s ts Narrow h = same_narrowed cs k s ts h
same_items cs k s ts (Bind i n) h = refl
same_items cs k s ts Split h = refl
same_items cs k s ts (Call n) h = refl

narrowed_by-over : (r : Row) (s : goals.Shape) (ts : Trees ℕ) → AreOver r ts → All (IsItemOver r) (narrowed_by s ts)
narrowed_by-over r (goals.user p) ts h = All-nil (IsItemOver r)
narrowed_by-over r goals.equals ts h = All-nil (IsItemOver r)
narrowed_by-over r (goals.member d) ts h = first_in-over r d ts h
narrowed_by-over r (goals.test t) ts h = All-nil (IsItemOver r)

-- the items are over the row's variables
pub items_by-over : (r : Row) (s : goals.Shape) (ts : Trees ℕ) (a : Act) → AreOver r ts → All (IsItemOver r) (items_by s ts a)
items_by-over r s ts Wait h = All-nil (IsItemOver r)
items_by-over r s ts Fail h = All-nil (IsItemOver r)
items_by-over r s ts Hold h = All-nil (IsItemOver r)
items_by-over r s ts Equate h = both_sides-over r ts h
items_by-over r s ts Narrow h = narrowed_by-over r s ts h
items_by-over r s ts (Bind i n) h = at_place-over r i n ts h
items_by-over r s ts Split h = All-nil (IsItemOver r)
items_by-over r s ts (Call n) h = All-nil (IsItemOver r)

module _ (cs : List Clause) (r : Row) (g : Goal ℕ) (d : GoalAt) (first : ℕ) (s : IsShown cs g d) where
  abbrev raw : Goal ℕ
  raw = put_goal (counted first) g

  terms : terms_of d first ≡ raw.arguments
  terms = ap (counted_all first) s.arguments

  acts : (a : Act) → IsAct cs d.kind r raw.arguments a (does r raw) → ActsAs cs r raw a
  acts Wait h = h
  acts Fail h = h
  acts Hold h = h
  acts Equate h = h
  acts Narrow h = h ∙ ap (λ is. Some (solves (map (item_in r) is))) (same_narrowed cs d.kind g.shape raw.arguments s.asks)
  acts (Bind i n) h = h
  acts Split h = h
  acts (Call n) h = h

  -- what was said of the goal as it is lent
  pub acts_as : (a : Act) → ((cs : List Clause) (k : goals.Shape) → Asks cs d.kind k → IsAct cs d.kind r (terms_of d first) a (act_by r.domains (terms_in r d first) k)) → ActsAs cs r raw a
  acts_as a h = acts a (subst (λ ts. IsAct cs d.kind r ts a (act_by r.domains (put_all (value_in r) ts) g.shape)) terms (h cs g.shape s.asks))

  pub decided_by : (a : Act) (b : Bool) (q : Row) → AreDecided r (items d.kind (terms_of d first) a) b q → AreDecided r (items_by raw.shape raw.arguments a) b q
  decided_by a b q h = subst (λ is. AreDecided r is b q) (ap (λ ts. items d.kind ts a) terms ∙ same_items cs d.kind g.shape raw.arguments a s.asks) h

  pub ready_of : (a : Act) → IsReady (count (forest d.arguments.now)) a → IsReady (count g.arguments) a
  ready_of a h = subst (λ ts. IsReady (count ts) a) s.arguments h
