-- Who records a run, and the reply to its words.
use Rattle.std.proofs.Common.{◌≡◌, Bool, true, false, ◌||◌, cond, List, [], ◌∷◌, map, Option, Some, None, refl, ap, ◌∙◌, sym, subst, codes}
use Rattle.std.specs.Prelude.{IfSome}
use Rattle.std.specs.List.{list_any}
use Rattle.pp_algebra.specs.Texts.{same_text}
use Rattle.pp_language.specs.declared.status.Status.{Status}
use Rattle.pp_language.specs.Texts.{Text}
use Rattle.pp_language.specs.Commands.{AreWordsOf}
use Rattle.pp_propagation.specs.Watchers.{Watcher}
use Rattle.pp_propagation.specs.Replies.{IsReply}
use Rattle.pp_run.specs.Endings.{Replied}
use Rattle.propia.specs.Recorders.{recorders, IsServed}

-- a test of what the elements are taken for is a test of them
pub any_of_map : {A B : Type 0} (f : A → B) (test : B → Bool) (xs : List A) → list_any test (map f xs) ≡ list_any (λ x. test (f x)) xs
any_of_map f test [] = refl
any_of_map f test (x ∷ xs) = ap (λ b. test (f x) || b) (any_of_map f test xs)

module _ {A : Type 0} (f : A → Text) (given : List A) (ws : List Watcher) where
  -- nobody records a run without `--trace`
  pub none_records : false ≡ list_any (λ x. same_text (f x) (codes "--trace")) given → ws ≡ [] → ws ≡ recorders (map f given)
  none_records e a = a ∙ ap (λ b. cond b (record { noted = []; room = None } ∷ []) []) (e ∙ sym (any_of_map f (λ w. same_text w (codes "--trace")) given))

  -- a run with `--trace` has one recorder
  pub one_records : true ≡ list_any (λ x. same_text (f x) (codes "--trace")) given → ws ≡ record { noted = []; room = None } ∷ [] → ws ≡ recorders (map f given)
  one_records e a = a ∙ ap (λ b. cond b (record { noted = []; room = None } ∷ []) []) (e ∙ sym (any_of_map f (λ w. same_text w (codes "--trace")) given))

-- what one element is taken for
pub one_kept : {A B : Type 0} (f : A → B) (xs : List A) (x : A) (y : B) → xs ≡ x ∷ [] → f x ≡ y → map f xs ≡ y ∷ []
one_kept f xs x y e h = ap (map f) e ∙ ap (λ z. z ∷ []) h

-- what is replied to the words, with these watchers, is what they are served
pub served : (words : List Text) (before after : Option Text) (s : Status) (old new : List Watcher) (left : Option Text) → IfSome left (λ text. Replied (IsReply AreWordsOf words text old new) before after s) → old ≡ recorders words → IfSome left (λ text. IsServed words text before after s)
served words before after s old new None q e = tt
served words before after s old new (Some text) q e = (new, subst (λ ws. Replied (IsReply AreWordsOf words text ws new) before after s) e q)
