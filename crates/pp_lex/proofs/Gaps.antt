-- A run over a gap: where it stands behind the first bytes of a text, and the last place where a gap ended.
use Rattle.std.proofs.Common.{◌≡◌, ℕ, ◌+◌, ◌-◌, ◌<◌, ◌≤◌, length, take, drop, get_or, refl, ap, sym, ◌∙◌, subst, ⊎_elim, arith}
use Rattle.std.proofs.lemmas.Bool.{cases_lt}
use Rattle.std.proofs.lemmas.List.{take_all}
use Rattle.pp_language.specs.Texts.{Text}
use Rattle.pp_language.specs.Tokens.{Gap, clear, broken, gap_step, gap_from, IsGap}
use Rattle.pp_lex.specs.declared.gap.State.{State}
use Rattle.pp_lex.specs.declared.gap.State.TheVariants.{Clear, Line, Slash, Block, Star, Broken}
use Rattle.pp_lex.specs.Gaps.{gap_of}
use Rattle.pp_language.proofs.Gaps.{gap_from-broken, gap_from-take_more, gap_from-take_add}

pub only_clear : (s : State) → gap_of s ≡ clear → s ≡ Clear
only_clear Clear e = refl
only_clear Line e = cc
only_clear Slash e = cc
only_clear Block e = cc
only_clear Star e = cc
only_clear Broken e = cc

-- the first i bytes lead to g, and the first n of them are the longest gap
pub record ReadTo (text : Text) (g : Gap) (n i : ℕ) : Type 0 where
  pub before : n ≤ i
  pub leads : gap_from clear (take i text) ≡ g
  pub is_gap : IsGap (take n text)
  pub longest : (m : ℕ) → n < m → m ≤ i → IsGap (take m text) → ⊥

module _ {text : Text} {g h : Gap} {n i : ℕ} (r : ReadTo text g n i) (d : ℕ) (l : i < length text) (e : h ≡ gap_step g (get_or text i d)) where
  leads_on : gap_from clear (take (i + 1) text) ≡ h
  leads_on = gap_from-take_more clear text i d l ∙ ap (λ k. gap_step k (get_or text i d)) r.leads ∙ sym e

  pub read_clear : h ≡ clear → ReadTo text h (i + 1) (i + 1)
  read_clear c = record {
    before = omega arith;
    leads = leads_on;
    is_gap = leads_on ∙ c;
    longest = λ m low high _. absurd (omega arith);
  }

  pub read_on : (h ≡ clear → ⊥) → ReadTo text h n (i + 1)
  read_on c = record {
    before = omega (arith, r.before);
    leads = leads_on;
    is_gap = r.is_gap;
    longest = λ m low high gap. ⊎_elim
        (λ (below : m < i + 1). r.longest m low (omega arith) gap)
        (λ (above : i + 1 ≤ m). let same : m ≡ i + 1 = omega arith in c (sym leads_on ∙ subst (λ k. IsGap (take k text)) same gap))
        (cases_lt m (i + 1));
  }

  broken_beyond : h ≡ broken → (m : ℕ) → i + 1 ≤ m → gap_from clear (take m text) ≡ broken
  broken_beyond b m above =
      let same : m ≡ (i + 1) + (m - (i + 1)) = omega arith in
      ap (λ k. gap_from clear (take k text)) same
      ∙ gap_from-take_add clear text (i + 1) (m - (i + 1))
      ∙ ap (λ k. gap_from k (take (m - (i + 1)) (drop (i + 1) text))) (leads_on ∙ b)
      ∙ gap_from-broken (take (m - (i + 1)) (drop (i + 1) text))

  -- behind a broken run no gap is longer, and none is the last one
  pub longest_at_broken : h ≡ broken → (m : ℕ) → n < m → IsGap (take m text) → ⊥
  longest_at_broken b m low gap = ⊎_elim
      (λ (below : m < i + 1). r.longest m low (omega arith) gap)
      (λ (above : i + 1 ≤ m). let f : gap_from clear (take m text) ≡ broken = broken_beyond b m above in cc)
      (cases_lt m (i + 1))

  pub broken_at_last : h ≡ broken → gap_from clear text ≡ broken
  broken_at_last b = subst (λ k. gap_from clear k ≡ broken) (take_all (length text) text (omega arith)) (broken_beyond b (length text) (omega arith))
