-- Words that clap takes are options with their values, and words by themselves.
use Rattle.std.proofs.Common.{◌≡◌, ◌∙◌, ap, sym, refl, true, false, List, [], ◌∷◌, inl, inr}
use Rattle.clap.specs.Walk.{Held, Row, Text, Waiting, Walk, idle, option, positional, reacted, used, walked}
use Rattle.clap.specs.Faults.{settle_fault, turn_fault, walk_fault}
use Rattle.clap.specs.Kinds.{or_else}
use Rattle.clap.specs.declared.error.kind.ErrorKind.{ErrorKind}
use Rattle.clap.specs.declared.error.kind.ErrorKind.TheVariants as kind
use Rattle.pp_language.specs.Commands.{Setting, worker_count, look_ahead, search_depth, turn_count}
use Rattle.pp_line.proofs.Steps.{id_of, rule_for, trace_read, number_read, between, rules, shape, IsPlain, is_free, asking, given_to, bare_held, Rests, run_fault, rows_behind, fault_on, passed, none_settles, name_walked, name_fault, assigned_walked, assigned_fault, trace_walked, trace_fault, value_walked, value_fault, bare_walked, bare_fault, rests_given, rests_bare, rests_reacted, Raw, valued, traced, bare, collected, AreRaws}
use Rattle.pp_line.proofs.Sorts.{IsOpen, plain, name, assigned, trace, refused, sort_of}

abbrev pub AreOpen : List Text → Type 0
AreOpen [] = Unit {0}
AreOpen (w ∷ ws) = IsOpen w × AreOpen ws

stops : (w : Walk) (x : Text) (ws : List Text) (k : ErrorKind) → turn_fault shape [] w x ≡ k ∷ [] → run_fault w (x ∷ ws) ≡ [] → ⊥
stops w x ws k f e =
    let g : k ∷ [] ≡ [] = sym (ap (λ t. or_else t (run_fault (walked rules [] w x) ws)) f) ∙ sym (fault_on w x ws) ∙ e in
    cc g

asking_fault : (s : Setting) (h : Held) → settle_fault rules false (asking s h) ≡ kind.InvalidValue ∷ []
asking_fault worker_count h = refl
asking_fault look_ahead h = refl
asking_fault search_depth h = refl
asking_fault turn_count h = refl

asking_stops : (s : Setting) (h : Held) → or_else (settle_fault rules false (asking s h)) [] ≡ kind.InvalidValue ∷ []
asking_stops s h = ap (λ k. or_else k []) (asking_fault s h)

-- what clap takes of the words from here on
abbrev Reads : Held → Waiting → List Row → List Text → Type 0
Reads h waiting rows ws = (rs : List Raw) × AreRaws ws rs × (rows_behind (between h waiting) ws ≡ collected rows rs)

abbrev ReadsValue : Setting → Held → List Row → List Text → Type 0
ReadsValue s h rows ws =
    (v : Text) × (rest : List Text) × (rs : List Raw) × (ws ≡ v ∷ rest) × IsPlain v × AreRaws rest rs
    × (rows_behind (between (asking s h) (option (id_of s))) ws ≡ collected (used (rule_for s) (v ∷ []) rows) rs)

ends : (w : Walk) → run_fault w [] ≡ settle_fault rules false w.held
unfolding walk_fault
ends w = refl

mutual
  pub reads_free : (ws : List Text) (h : Held) (waiting : Waiting) (rows : List Row) → Rests h rows → is_free waiting ≡ true → AreOpen ws → run_fault (between h waiting) ws ≡ [] → Reads h waiting rows ws
  reads_free [] h waiting rows r f o e = ([], refl, r.kept)
  reads_free (w ∷ ws) h waiting rows r f o e =
      elim (sort_of w o.0) [
        | plain p ↦
            let t = passed (between h waiting) (between (bare_held w h) positional) w ws (bare_fault w h waiting f p ∙ r.fault) (bare_walked w h waiting f p) in
            let later = reads_free ws (bare_held w h) positional (used number_read (w ∷ []) rows) (rests_bare w h rows r) refl o.1 (sym t.0 ∙ e) in
            (bare w ∷ later.0, (w ∷ [], ws, refl, (refl, p), later.1), t.1 ∙ later.2)
        | name s g ↦
            let t = passed (between h waiting) (between (asking s h) (option (id_of s))) w ws (ap (λ x. turn_fault shape [] (between h waiting) x) g ∙ name_fault s h waiting ∙ none_settles h rows r)
            (ap (λ x. walked rules [] (between h waiting) x) g ∙ name_walked s h waiting) in
            let later = reads_asking s ws h rows r o.1 (sym t.0 ∙ e) in
            (valued s later.0 ∷ later.2, (w ∷ later.0 ∷ [], later.1, ap (λ x. w ∷ x) later.3, inl (ap (λ x. x ∷ later.0 ∷ []) g, later.4), later.5), t.1 ∙ later.6)
        | assigned s d g ↦
            let t = passed (between h waiting) (between (reacted rules (rule_for s) (d ∷ []) h) idle) w ws
            (ap (λ x. turn_fault shape [] (between h waiting) x) g ∙ assigned_fault s d h waiting ∙ ap (λ k. or_else k []) (none_settles h rows r))
            (ap (λ x. walked rules [] (between h waiting) x) g ∙ assigned_walked s d h waiting) in
            let later = reads_free ws (reacted rules (rule_for s) (d ∷ []) h) idle (used (rule_for s) (d ∷ []) rows) (rests_reacted (rule_for s) (d ∷ []) h rows r) refl o.1 (sym t.0 ∙ e) in
            (valued s d ∷ later.0, (w ∷ [], ws, refl, inr (ap (λ x. x ∷ []) g), later.1), t.1 ∙ later.2)
        | trace g ↦
            let t = passed (between h waiting) (between (reacted rules trace_read [] h) idle) w ws
            (ap (λ x. turn_fault shape [] (between h waiting) x) g ∙ trace_fault h waiting ∙ ap (λ k. or_else k []) (none_settles h rows r))
            (ap (λ x. walked rules [] (between h waiting) x) g ∙ trace_walked h waiting) in
            let later = reads_free ws (reacted rules trace_read [] h) idle (used trace_read [] rows) (rests_reacted trace_read [] h rows r) refl o.1 (sym t.0 ∙ e) in
            (traced ∷ later.0, (w ∷ [], ws, refl, ap (λ x. x ∷ []) g, later.1), t.1 ∙ later.2)
        | refused k g ↦ absurd (stops (between h waiting) w ws k (g h waiting) e)
      ]

  reads_asking : (s : Setting) (ws : List Text) (h : Held) (rows : List Row) → Rests h rows → AreOpen ws → run_fault (between (asking s h) (option (id_of s))) ws ≡ [] → ReadsValue s h rows ws
  reads_asking s [] h rows r o e = let g : kind.InvalidValue ∷ [] ≡ [] = sym (asking_fault s h) ∙ sym (ends (between (asking s h) (option (id_of s)))) ∙ e in absurd (cc g)
  reads_asking s (w ∷ ws) h rows r o e =
      let at = between (asking s h) (option (id_of s)) in
      elim (sort_of w o.0) [
        | plain p ↦
            let t = passed at (between (given_to s w h) idle) w ws (value_fault s w h p) (value_walked s w h p) in
            let later = reads_free ws (given_to s w h) idle (used (rule_for s) (w ∷ []) rows) (rests_given s w h rows r) refl o.1 (sym t.0 ∙ e) in
            (w, ws, later.0, refl, p, later.1, t.1 ∙ later.2)
        | name x g ↦ absurd (stops at w ws kind.InvalidValue (ap (λ y. turn_fault shape [] at y) g ∙ name_fault x (asking s h) (option (id_of s)) ∙ asking_stops s h) e)
        | assigned x d g ↦ absurd (stops at w ws kind.InvalidValue (ap (λ y. turn_fault shape [] at y) g ∙ assigned_fault x d (asking s h) (option (id_of s)) ∙ ap (λ k. or_else k []) (asking_stops s h)) e)
        | trace g ↦ absurd (stops at w ws kind.InvalidValue (ap (λ y. turn_fault shape [] at y) g ∙ trace_fault (asking s h) (option (id_of s)) ∙ ap (λ k. or_else k []) (asking_stops s h)) e)
        | refused k g ↦ absurd (stops at w ws k (g (asking s h) (option (id_of s))) e)
      ]
