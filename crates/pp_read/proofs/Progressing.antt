-- One more statement of a text.
use Rattle.std.proofs.Common.{◌≡◌, ℕ, suc, ◌+◌, true, false, ◌||◌, List, [], ◌∷◌, ◌++◌, length, map, Option, Some, None, refl, ap, sym, ◌∙◌, subst, arith, append-nil}
use Rattle.std.specs.Prelude.{All}
use Rattle.std.specs.List.{list_any}
use Rattle.std.proofs.Math.ListN.{length-map}
use Rattle.std.proofs.lemmas.List.{map-append}
use Rattle.std.proofs.lemmas.List.Folds.{list_any-append}
use Rattle.std.proofs.lemmas.List.Elements.{All-push}
use Rattle.pp_language.specs.declared.which.Which.{Which}
use Rattle.pp_language.specs.Texts.{Text}
use Rattle.pp_language.specs.Statements.{Statement, directive, clause, query, is_query}
use Rattle.pp_language.specs.Meanings.{clauses_by, clause_by, query_by, asked_by}
use Rattle.pp_language.specs.Limits.{passed, clauses_behind, or_later, first_passed}
use Rattle.pp_term.specs.declared.clause.Clause as terms
use Rattle.pp_term.specs.declared.query.Query as terms_query
use Rattle.pp_term.specs.Meanings.{clause_of}
use Rattle.pp_read.specs.declared.progress.Progress.{Progress}
use Rattle.pp_read.specs.declared.sentence.Said.TheVariants.{Directive, Clause, Query, OverClause, OverQuery}
use Rattle.pp_read.specs.Sizes.{IsReadClause}
use Rattle.pp_read.specs.Sentences.{IsMade}
use Rattle.pp_read.specs.Progress.{IsAsked, IsProgress}
use Rattle.std.proofs.Math.Bool.{or-false}

-- ===== limits, one statement further

-- how many clauses stand before what follows
abbrev pub behind : ℕ → List Statement → ℕ
behind n [] = n
behind n (s ∷ ss) = behind (clauses_behind n s) ss

or_later-or_later : (a b c : Option Which) → or_later (or_later a b) c ≡ or_later a (or_later b c)
or_later-or_later None b c = refl
or_later-or_later (Some w) b c = refl

or_none : (a : Option Which) → or_later a None ≡ a
or_none None = refl
or_none (Some w) = refl

first_passed-push : (n : ℕ) (ss : List Statement) (s : Statement) → first_passed n (ss ++ s ∷ []) ≡ or_later (first_passed n ss) (passed (behind n ss) s)
first_passed-push n [] s = or_none (passed n s)
first_passed-push n (t ∷ ss) s = ap (or_later (passed n t)) (first_passed-push (clauses_behind n t) ss s) ∙ sym (or_later-or_later (passed n t) (first_passed (clauses_behind n t) ss) (passed (behind (clauses_behind n t) ss) s))

pub clauses-counted : (names : List Text) (n : ℕ) (ss : List Statement) → behind n ss ≡ n + length (clauses_by names ss)
clauses-counted names n [] = omega arith
clauses-counted names n (directive w ∷ ss) = clauses-counted names n ss
clauses-counted names n (clause p is ∷ ss) = omega (arith, clauses-counted names (suc n) ss)
clauses-counted names n (query is ∷ ss) = clauses-counted names n ss

clauses-push : (names : List Text) (ss : List Statement) (s : Statement) → clauses_by names (ss ++ s ∷ []) ≡ clauses_by names ss ++ clauses_by names (s ∷ [])
clauses-push names [] s = refl
clauses-push names (directive w ∷ ss) s = clauses-push names ss s
clauses-push names (clause p is ∷ ss) s = ap (λ cs. clause_by names p is ∷ cs) (clauses-push names ss s)
clauses-push names (query is ∷ ss) s = clauses-push names ss s

asked-push : (ss : List Statement) (s : Statement) → list_any is_query ss ≡ false → asked_by (ss ++ s ∷ []) ≡ asked_by (s ∷ [])
asked-push [] s h = refl
asked-push (directive w ∷ ss) s h = asked-push ss s h
asked-push (clause p is ∷ ss) s h = asked-push ss s h
asked-push (query is ∷ ss) s h = absurd (cc)

none_asked : (ss : List Statement) → list_any is_query ss ≡ false → asked_by ss ≡ []
none_asked [] h = refl
none_asked (directive w ∷ ss) h = none_asked ss h
none_asked (clause p is ∷ ss) h = none_asked ss h
none_asked (query is ∷ ss) h = absurd (cc)

any-push : (ss : List Statement) (s : Statement) → list_any is_query ss ≡ false → list_any is_query (ss ++ s ∷ []) ≡ is_query s
any-push ss s h = list_any-append is_query ss (s ∷ []) ∙ ap (λ b. b || (is_query s || false)) h ∙ or-false (is_query s)

-- ===== progress

module _ (names : List Text) (ss : List Statement) (s : Statement) (p : Progress) (h : IsProgress names ss p) (q : list_any is_query ss ≡ false) where
  abbrev here : ℕ
  here = length p.clauses.items

  counted : p.passed ≡ None → here ≡ behind 0 ss
  counted e = sym (length-map p.clauses.items clause_of) ∙ ap length (h.clauses e) ∙ (let c = clauses-counted names 0 ss in omega arith)

  -- the first limit, where the statement passes this one
  limit_on : (w : Option Which) → (p.passed ≡ None → passed here s ≡ w) → or_later p.passed w ≡ first_passed 0 (ss ++ s ∷ [])
  limit_on w f = pick p.passed refl ∙ ap (λ o. or_later o (passed (behind 0 ss) s)) h.passed ∙ sym (first_passed-push 0 ss s)
    where
      pick : (o : Option Which) → p.passed ≡ o → or_later p.passed w ≡ or_later p.passed (passed (behind 0 ss) s)
      pick None e = ap (λ x. or_later x w) e ∙ sym (f e) ∙ ap (λ n. passed n s) (counted e) ∙ ap (λ x. or_later x (passed (behind 0 ss) s)) (sym e)
      pick (Some v) e = ap (λ x. or_later x w) e ∙ ap (λ x. or_later x (passed (behind 0 ss) s)) (sym e)

  no_limit : (p.passed ≡ None → passed here s ≡ None) → p.passed ≡ first_passed 0 (ss ++ s ∷ [])
  no_limit f = sym (or_none p.passed) ∙ limit_on None f

  -- a query of earlier statements is none
  same_asked : (o : Option terms_query.Query) → is_query s ≡ false → asked_by (s ∷ []) ≡ [] → IsAsked names ss o → IsAsked names (ss ++ s ∷ []) o
  same_asked None f e a = any-push ss s q ∙ f
  same_asked (Some x) f e a = (a.0 ∙ ap (query_by names) (none_asked ss q ∙ sym (asked-push ss s q ∙ e)), a.1)

-- the statement is a directive, a clause or a query, and what it writes is taken in
module _ (names : List Text) (ss : List Statement) (p : Progress) (h : IsProgress names ss p) (q : list_any is_query ss ≡ false) where
  pub after_directive : (s : Statement) → IsMade names (length p.clauses.items) s Directive → IsProgress names (ss ++ s ∷ []) p
  after_directive (clause a is) m = absurd m
  after_directive (query is) m = absurd m
  after_directive (directive w) m =
      let s = directive w in
      record {
        passed = no_limit names ss s p h q (λ e. refl);
        asked = h.asked ∙ q ∙ sym (any-push ss s q);
        clauses = λ e. h.clauses e ∙ sym (append-nil (clauses_by names ss)) ∙ sym (clauses-push names ss s);
        query = λ e. same_asked names ss s p h q p.query refl refl (h.query e);
        formed = h.formed;
      }

  pub after_clause : (s : Statement) (c : terms.Clause) (r : Progress) → IsMade names (length p.clauses.items) s (Clause c) → r.clauses.items ≡ p.clauses.items ++ c ∷ [] → r.query ≡ p.query → r.asked ≡ p.asked → r.passed ≡ p.passed → IsProgress names (ss ++ s ∷ []) r
  after_clause (directive w) c r m a b d f = absurd m
  after_clause (query is) c r m a b d f = absurd m
  after_clause (clause x is) c r m a b d f =
      let s = clause x is in
      record {
        passed = f ∙ no_limit names ss s p h q (λ e. m.0);
        asked = d ∙ h.asked ∙ q ∙ sym (any-push ss s q);
        clauses = λ e.
            ap (map clause_of) a ∙ map-append clause_of p.clauses.items (c ∷ []) ∙ ap (λ cs. cs ++ clause_of c ∷ []) (h.clauses (sym f ∙ e)) ∙ ap (λ v. clauses_by names ss ++ v ∷ []) m.1 ∙ sym (clauses-push names ss s);
        query = λ e. subst (IsAsked names (ss ++ s ∷ [])) (sym b) (same_asked names ss s p h q p.query refl refl (h.query (sym f ∙ e)));
        formed = subst (All IsReadClause) (sym a) (All-push IsReadClause p.clauses.items c h.formed m.2);
      }

  pub after_query : (s : Statement) (x : terms_query.Query) (r : Progress) → IsMade names (length p.clauses.items) s (Query x) → r.clauses.items ≡ p.clauses.items → r.query ≡ Some x → r.asked ≡ true → r.passed ≡ p.passed → IsProgress names (ss ++ s ∷ []) r
  after_query (directive w) x r m a b d f = absurd m
  after_query (clause y is) x r m a b d f = absurd m
  after_query (query is) x r m a b d f =
      let s = query is in
      record {
        passed = f ∙ no_limit names ss s p h q (λ e. m.0);
        asked = d ∙ sym (any-push ss s q);
        clauses = λ e. ap (map clause_of) a ∙ h.clauses (sym f ∙ e) ∙ sym (append-nil (clauses_by names ss)) ∙ sym (clauses-push names ss s);
        query = λ e. subst (IsAsked names (ss ++ s ∷ [])) (sym b) (m.1 ∙ ap (query_by names) (sym (asked-push ss s q)), m.2);
        formed = subst (All IsReadClause) (sym a) h.formed;
      }

  over : (s : Statement) (w : Which) (r : Progress) → passed (length p.clauses.items) s ≡ Some w → r.clauses.items ≡ p.clauses.items → r.asked ≡ is_query s → r.passed ≡ or_later p.passed (Some w) → IsProgress names (ss ++ s ∷ []) r
  over s w r m a d f =
      let some : r.passed ≡ None → ⊥ = λ e. no_none p.passed (sym f ∙ e) in
      record {
        passed = f ∙ limit_on names ss s p h q (Some w) (λ e. m);
        asked = d ∙ sym (any-push ss s q);
        clauses = λ e. absurd (some e);
        query = λ e. absurd (some e);
        formed = subst (All IsReadClause) (sym a) h.formed;
      }
    where
      no_none : (o : Option Which) → or_later o (Some w) ≡ None → ⊥
      no_none None e = cc
      no_none (Some v) e = cc

  pub after_over_clause : (s : Statement) (w : Which) (r : Progress) → IsMade names (length p.clauses.items) s (OverClause w) → r.clauses ≡ p.clauses → r.asked ≡ p.asked → r.passed ≡ or_later p.passed (Some w) → IsProgress names (ss ++ s ∷ []) r
  after_over_clause (directive v) w r m a d f = absurd m
  after_over_clause (query is) w r m a d f = absurd m
  after_over_clause (clause x is) w r m a d f = over (clause x is) w r m (ap (λ v. v.items) a) (d ∙ h.asked ∙ q) f

  pub after_over_query : (s : Statement) (w : Which) (r : Progress) → IsMade names (length p.clauses.items) s (OverQuery w) → r.clauses ≡ p.clauses → r.asked ≡ true → r.passed ≡ or_later p.passed (Some w) → IsProgress names (ss ++ s ∷ []) r
  after_over_query (directive v) w r m a d f = absurd m
  after_over_query (clause x is) w r m a d f = absurd m
  after_over_query (query is) w r m a d f = over (query is) w r m (ap (λ v. v.items) a) d f
