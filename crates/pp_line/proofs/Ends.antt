-- Behind the words nothing more fails, and no row is added.
use Rattle.std.proofs.Common.{◌≡◌, ◌∙◌, ap, ap₂, sym, refl, append-nil, append_assoc, Bool, true, false, cond, List, [], ◌∷◌, ◌++◌, Option, Some, None}
use Rattle.std.specs.Prelude.{codes, fold}
use Rattle.std.specs.Str.{bytes_eq}
use Rattle.std.proofs.lemmas.Bool.{or_right}
use Rattle.std.proofs.lemmas.Slice.Eq.{bytes_eq-Decides}
use Rattle.clap.specs.Walk.{Row, Rule, Text, all_of, has_row, idle, nothing_held, settled, walk, with_default, with_values}
use Rattle.clap.specs.Simple.{built, matches_of}
use Rattle.clap.specs.Faults.{check_fault, default_fault, defaults_fault, fault_of, settle_fault, walk_fault}
use Rattle.clap.specs.Kinds.{Kinds, or_else}
use Rattle.clap.specs.declared.builder.value_parser.Reading.{Reading}
use Rattle.clap.specs.declared.parser.matches.ValueSource.{ValueSource}
use Rattle.clap.proofs.FaultLemmas.{leaf_fault}
use Rattle.pp_line.specs.Line.{line}
use Rattle.pp_line.specs.Kept.{listed}
use Rattle.pp_language.specs.Commands.{Setting, worker_count, look_ahead, search_depth, turn_count, same_setting}
use Rattle.pp_line.proofs.Steps.{id_of, between, rules, shape, run_fault, rows_behind, Rests, Raw, valued, traced, bare, use_of, collected, AreRaws, takes_raws}
use Rattle.pp_line.proofs.Taken.{AreOpen, reads_free}

same_both : {A : Type 0} (b : Bool) (x : A) → cond b x x ≡ x
same_both true x = refl
same_both false x = refl

or_none : (k : Kinds) → or_else k [] ≡ k
or_none [] = refl
or_none (k ∷ ks) = refl

-- no argument has a default
abbrev HaveNone : List Rule → Type 0
HaveNone [] = Unit {0}
HaveNone (a ∷ more) = (a.defaults ≡ []) × HaveNone more

none_added : (rows : List Row) (a : Rule) → a.defaults ≡ [] → with_default rows a ≡ rows
none_added rows a e = rw e (same_both (has_row a.id rows) rows)

none_fails : (rows : List Row) (a : Rule) → a.defaults ≡ [] → default_fault rows a ≡ []
none_fails rows a e = rw (e, or_right (has_row a.id rows) true refl) refl

all_added : (rows : List Row) (more : List Rule) → HaveNone more → fold with_default rows more ≡ rows
all_added rows [] h = refl
all_added rows (a ∷ more) h = ap (λ r. fold with_default r more) (none_added rows a h.0) ∙ all_added rows more h.1

all_pass : (rows : List Row) (more : List Rule) → HaveNone more → defaults_fault rows more ≡ []
unfolding defaults_fault
all_pass rows [] h = refl
all_pass rows (a ∷ more) h = ap₂ or_else (none_fails rows a h.0) (ap (λ r. defaults_fault r more) (none_added rows a h.0) ∙ all_pass rows more h.1)

have_none : HaveNone rules
have_none = (refl, (refl, (refl, (refl, (refl, (refl, tt))))))

checked : (rows : List Row) → check_fault shape rows false ≡ []
checked rows = refl

-- the words' fault and matches are those of the walk alone
pub line_fault : (name : Text) (ws : List Text) → fault_of line (name ∷ ws) ≡ run_fault (between nothing_held idle) ws
line_fault name ws =
    let end = (walk rules [] nothing_held ws).held in
    leaf_fault (built line) nothing_held ws refl
    ∙ ap (λ d. or_else (walk_fault shape [] (between nothing_held idle) ws) (or_else (settle_fault rules false end) (or_else d []))) (all_pass (settled rules end).rows rules have_none)
    ∙ ap (λ k. or_else (walk_fault shape [] (between nothing_held idle) ws) k) (or_none (settle_fault rules false end))

pub line_matches : (name : Text) (ws : List Text) → matches_of line (name ∷ ws) ≡ rows_behind (between nothing_held idle) ws
line_matches name ws = all_added (settled rules (walk rules [] nothing_held ws).held).rows rules have_none

same_id : (id : Text) → bytes_eq id id ≡ true
same_id id = (bytes_eq-Decides id id).1 refl

pub kept_here : (id : Text) (how : Reading) (s : ValueSource) (vs : List Text) (rows : List Row) → all_of id (with_values id how s vs rows) ≡ Some (listed (all_of id rows) ++ vs)
kept_here id how s vs [] = rw (same_id id) refl
kept_here id how s vs (r ∷ rs) =
    elim (bytes_eq r.id id) as (λ b. bytes_eq r.id id ≡ b → all_of id (with_values id how s vs (r ∷ rs)) ≡ Some (listed (all_of id (r ∷ rs)) ++ vs)) [
      | true ↦ λ e. rw e (rw e refl)
      | false ↦ λ e. rw e (rw e (kept_here id how s vs rs))
    ] refl

pub kept_there : (id other : Text) (how : Reading) (s : ValueSource) (vs : List Text) (rows : List Row) → bytes_eq other id ≡ false → all_of id (with_values other how s vs rows) ≡ all_of id rows
kept_there id other how s vs [] n = rw n refl
kept_there id other how s vs (r ∷ rs) n =
    elim (bytes_eq r.id other) as (λ b. bytes_eq r.id other ≡ b → all_of id (with_values other how s vs (r ∷ rs)) ≡ all_of id (r ∷ rs)) [
      | true ↦ λ e.
          let differs : bytes_eq r.id id ≡ false = ap (λ x. bytes_eq x id) ((bytes_eq-Decides r.id other).0 e) ∙ n in
          rw (e, differs) refl
      | false ↦ λ e. elim (bytes_eq r.id id) as (λ b. bytes_eq r.id id ≡ b → all_of id (with_values other how s vs (r ∷ rs)) ≡ all_of id (r ∷ rs)) [
        | true ↦ λ f. rw (e, f) refl
        | false ↦ λ f. rw (e, f) (kept_there id other how s vs rs n)
      ] refl
    ] refl

begins : Rests nothing_held []
begins = record { kept = refl; fault = refl }

-- words that clap takes are entries, and their values are what it keeps
pub line_reads : (name : Text) (ws : List Text) → AreOpen ws → fault_of line (name ∷ ws) ≡ [] → (rs : List Raw) × AreRaws ws rs × (matches_of line (name ∷ ws) ≡ collected [] rs)
line_reads name ws o e =
    let r = reads_free ws nothing_held idle [] begins refl o (sym (line_fault name ws) ∙ e) in
    (r.0, r.1, line_matches name ws ∙ r.2)

-- and clap takes all words that are entries
pub line_takes : (name : Text) (ws : List Text) (rs : List Raw) → AreRaws ws rs → (fault_of line (name ∷ ws) ≡ []) × (matches_of line (name ∷ ws) ≡ collected [] rs)
line_takes name ws rs e =
    let t = takes_raws rs ws nothing_held idle [] begins refl e in
    (line_fault name ws ∙ t.0, line_matches name ws ∙ t.1)

-- the texts that a setting is given, those that stand by themselves, and one for each `--trace`
abbrev pub given : Setting → List Raw → List Text
given s [] = []
given s (valued t v ∷ rs) = cond (same_setting s t) (v ∷ given s rs) (given s rs)
given s (traced ∷ rs) = given s rs
given s (bare v ∷ rs) = given s rs

abbrev pub bares : List Raw → List Text
bares [] = []
bares (valued t v ∷ rs) = bares rs
bares (traced ∷ rs) = bares rs
bares (bare v ∷ rs) = v ∷ bares rs

abbrev pub traces : List Raw → List Text
traces [] = []
traces (valued t v ∷ rs) = traces rs
traces (traced ∷ rs) = [] ∷ traces rs
traces (bare v ∷ rs) = traces rs

-- what is kept, with more texts behind it
abbrev pub grown : Option (List Text) → List Text → Option (List Text)
grown o [] = o
grown o (t ∷ ts) = grown (Some (listed o ++ t ∷ [])) ts

given_kept : (s : Setting) (rs : List Raw) (rows : List Row) → all_of (id_of s) (collected rows rs) ≡ grown (all_of (id_of s) rows) (given s rs)
given_kept s [] rows = refl
given_kept worker_count (valued worker_count v ∷ rs) rows = given_kept worker_count rs (use_of (valued worker_count v) rows) ∙ ap (λ o. grown o (given worker_count rs)) (kept_here (id_of worker_count) _ _ (v ∷ []) rows)
given_kept worker_count (valued look_ahead v ∷ rs) rows = given_kept worker_count rs (use_of (valued look_ahead v) rows) ∙ ap (λ o. grown o (given worker_count rs)) (kept_there (id_of worker_count) (id_of look_ahead) _ _ (v ∷ []) rows refl)
given_kept worker_count (valued search_depth v ∷ rs) rows = given_kept worker_count rs (use_of (valued search_depth v) rows) ∙ ap (λ o. grown o (given worker_count rs)) (kept_there (id_of worker_count) (id_of search_depth) _ _ (v ∷ []) rows refl)
given_kept worker_count (valued turn_count v ∷ rs) rows = given_kept worker_count rs (use_of (valued turn_count v) rows) ∙ ap (λ o. grown o (given worker_count rs)) (kept_there (id_of worker_count) (id_of turn_count) _ _ (v ∷ []) rows refl)
given_kept look_ahead (valued worker_count v ∷ rs) rows = given_kept look_ahead rs (use_of (valued worker_count v) rows) ∙ ap (λ o. grown o (given look_ahead rs)) (kept_there (id_of look_ahead) (id_of worker_count) _ _ (v ∷ []) rows refl)
given_kept look_ahead (valued look_ahead v ∷ rs) rows = given_kept look_ahead rs (use_of (valued look_ahead v) rows) ∙ ap (λ o. grown o (given look_ahead rs)) (kept_here (id_of look_ahead) _ _ (v ∷ []) rows)
given_kept look_ahead (valued search_depth v ∷ rs) rows = given_kept look_ahead rs (use_of (valued search_depth v) rows) ∙ ap (λ o. grown o (given look_ahead rs)) (kept_there (id_of look_ahead) (id_of search_depth) _ _ (v ∷ []) rows refl)
given_kept look_ahead (valued turn_count v ∷ rs) rows = given_kept look_ahead rs (use_of (valued turn_count v) rows) ∙ ap (λ o. grown o (given look_ahead rs)) (kept_there (id_of look_ahead) (id_of turn_count) _ _ (v ∷ []) rows refl)
given_kept search_depth (valued worker_count v ∷ rs) rows = given_kept search_depth rs (use_of (valued worker_count v) rows) ∙ ap (λ o. grown o (given search_depth rs)) (kept_there (id_of search_depth) (id_of worker_count) _ _ (v ∷ []) rows refl)
given_kept search_depth (valued look_ahead v ∷ rs) rows = given_kept search_depth rs (use_of (valued look_ahead v) rows) ∙ ap (λ o. grown o (given search_depth rs)) (kept_there (id_of search_depth) (id_of look_ahead) _ _ (v ∷ []) rows refl)
given_kept search_depth (valued search_depth v ∷ rs) rows = given_kept search_depth rs (use_of (valued search_depth v) rows) ∙ ap (λ o. grown o (given search_depth rs)) (kept_here (id_of search_depth) _ _ (v ∷ []) rows)
given_kept search_depth (valued turn_count v ∷ rs) rows = given_kept search_depth rs (use_of (valued turn_count v) rows) ∙ ap (λ o. grown o (given search_depth rs)) (kept_there (id_of search_depth) (id_of turn_count) _ _ (v ∷ []) rows refl)
given_kept turn_count (valued worker_count v ∷ rs) rows = given_kept turn_count rs (use_of (valued worker_count v) rows) ∙ ap (λ o. grown o (given turn_count rs)) (kept_there (id_of turn_count) (id_of worker_count) _ _ (v ∷ []) rows refl)
given_kept turn_count (valued look_ahead v ∷ rs) rows = given_kept turn_count rs (use_of (valued look_ahead v) rows) ∙ ap (λ o. grown o (given turn_count rs)) (kept_there (id_of turn_count) (id_of look_ahead) _ _ (v ∷ []) rows refl)
given_kept turn_count (valued search_depth v ∷ rs) rows = given_kept turn_count rs (use_of (valued search_depth v) rows) ∙ ap (λ o. grown o (given turn_count rs)) (kept_there (id_of turn_count) (id_of search_depth) _ _ (v ∷ []) rows refl)
given_kept turn_count (valued turn_count v ∷ rs) rows = given_kept turn_count rs (use_of (valued turn_count v) rows) ∙ ap (λ o. grown o (given turn_count rs)) (kept_here (id_of turn_count) _ _ (v ∷ []) rows)
given_kept worker_count (traced ∷ rs) rows = given_kept worker_count rs (use_of traced rows) ∙ ap (λ o. grown o (given worker_count rs)) (kept_there (id_of worker_count) (codes "trace") _ _ ([] ∷ []) rows refl)
given_kept worker_count (bare v ∷ rs) rows = given_kept worker_count rs (use_of (bare v) rows) ∙ ap (λ o. grown o (given worker_count rs)) (kept_there (id_of worker_count) (codes "number") _ _ (v ∷ []) rows refl)
given_kept look_ahead (traced ∷ rs) rows = given_kept look_ahead rs (use_of traced rows) ∙ ap (λ o. grown o (given look_ahead rs)) (kept_there (id_of look_ahead) (codes "trace") _ _ ([] ∷ []) rows refl)
given_kept look_ahead (bare v ∷ rs) rows = given_kept look_ahead rs (use_of (bare v) rows) ∙ ap (λ o. grown o (given look_ahead rs)) (kept_there (id_of look_ahead) (codes "number") _ _ (v ∷ []) rows refl)
given_kept search_depth (traced ∷ rs) rows = given_kept search_depth rs (use_of traced rows) ∙ ap (λ o. grown o (given search_depth rs)) (kept_there (id_of search_depth) (codes "trace") _ _ ([] ∷ []) rows refl)
given_kept search_depth (bare v ∷ rs) rows = given_kept search_depth rs (use_of (bare v) rows) ∙ ap (λ o. grown o (given search_depth rs)) (kept_there (id_of search_depth) (codes "number") _ _ (v ∷ []) rows refl)
given_kept turn_count (traced ∷ rs) rows = given_kept turn_count rs (use_of traced rows) ∙ ap (λ o. grown o (given turn_count rs)) (kept_there (id_of turn_count) (codes "trace") _ _ ([] ∷ []) rows refl)
given_kept turn_count (bare v ∷ rs) rows = given_kept turn_count rs (use_of (bare v) rows) ∙ ap (λ o. grown o (given turn_count rs)) (kept_there (id_of turn_count) (codes "number") _ _ (v ∷ []) rows refl)

bares_kept : (rs : List Raw) (rows : List Row) → all_of (codes "number") (collected rows rs) ≡ grown (all_of (codes "number") rows) (bares rs)
bares_kept [] rows = refl
bares_kept (valued worker_count v ∷ rs) rows = bares_kept rs (use_of (valued worker_count v) rows) ∙ ap (λ o. grown o (bares rs)) (kept_there (codes "number") (id_of worker_count) _ _ (v ∷ []) rows refl)
bares_kept (valued look_ahead v ∷ rs) rows = bares_kept rs (use_of (valued look_ahead v) rows) ∙ ap (λ o. grown o (bares rs)) (kept_there (codes "number") (id_of look_ahead) _ _ (v ∷ []) rows refl)
bares_kept (valued search_depth v ∷ rs) rows = bares_kept rs (use_of (valued search_depth v) rows) ∙ ap (λ o. grown o (bares rs)) (kept_there (codes "number") (id_of search_depth) _ _ (v ∷ []) rows refl)
bares_kept (valued turn_count v ∷ rs) rows = bares_kept rs (use_of (valued turn_count v) rows) ∙ ap (λ o. grown o (bares rs)) (kept_there (codes "number") (id_of turn_count) _ _ (v ∷ []) rows refl)
bares_kept (traced ∷ rs) rows = bares_kept rs (use_of traced rows) ∙ ap (λ o. grown o (bares rs)) (kept_there (codes "number") (codes "trace") _ _ ([] ∷ []) rows refl)
bares_kept (bare v ∷ rs) rows = bares_kept rs (use_of (bare v) rows) ∙ ap (λ o. grown o (bares rs)) (kept_here (codes "number") _ _ (v ∷ []) rows)

traces_kept : (rs : List Raw) (rows : List Row) → all_of (codes "trace") (collected rows rs) ≡ grown (all_of (codes "trace") rows) (traces rs)
traces_kept [] rows = refl
traces_kept (valued worker_count v ∷ rs) rows = traces_kept rs (use_of (valued worker_count v) rows) ∙ ap (λ o. grown o (traces rs)) (kept_there (codes "trace") (id_of worker_count) _ _ (v ∷ []) rows refl)
traces_kept (valued look_ahead v ∷ rs) rows = traces_kept rs (use_of (valued look_ahead v) rows) ∙ ap (λ o. grown o (traces rs)) (kept_there (codes "trace") (id_of look_ahead) _ _ (v ∷ []) rows refl)
traces_kept (valued search_depth v ∷ rs) rows = traces_kept rs (use_of (valued search_depth v) rows) ∙ ap (λ o. grown o (traces rs)) (kept_there (codes "trace") (id_of search_depth) _ _ (v ∷ []) rows refl)
traces_kept (valued turn_count v ∷ rs) rows = traces_kept rs (use_of (valued turn_count v) rows) ∙ ap (λ o. grown o (traces rs)) (kept_there (codes "trace") (id_of turn_count) _ _ (v ∷ []) rows refl)
traces_kept (traced ∷ rs) rows = traces_kept rs (use_of traced rows) ∙ ap (λ o. grown o (traces rs)) (kept_here (codes "trace") _ _ ([] ∷ []) rows)
traces_kept (bare v ∷ rs) rows = traces_kept rs (use_of (bare v) rows) ∙ ap (λ o. grown o (traces rs)) (kept_there (codes "trace") (codes "number") _ _ (v ∷ []) rows refl)

-- the texts of an id, in the order of the words, where there are any
abbrev pub some_of : List Text → Option (List Text)
some_of [] = None
some_of (t ∷ ts) = Some (t ∷ ts)

grown_more : (xs ts : List Text) → grown (Some xs) ts ≡ Some (xs ++ ts)
grown_more xs [] = ap Some (sym (append-nil xs))
grown_more xs (t ∷ ts) = grown_more (xs ++ t ∷ []) ts ∙ ap Some (append_assoc xs (t ∷ []) ts)

grown_all : (ts : List Text) → grown None ts ≡ some_of ts
grown_all [] = refl
grown_all (t ∷ ts) = grown_more (t ∷ []) ts

-- what is kept of the entries
pub setting_kept : (s : Setting) (rs : List Raw) → all_of (id_of s) (collected [] rs) ≡ some_of (given s rs)
setting_kept s rs = given_kept s rs [] ∙ grown_all (given s rs)

pub numbers_kept : (rs : List Raw) → all_of (codes "number") (collected [] rs) ≡ some_of (bares rs)
numbers_kept rs = bares_kept rs [] ∙ grown_all (bares rs)

pub trace_kept : (rs : List Raw) → all_of (codes "trace") (collected [] rs) ≡ some_of (traces rs)
trace_kept rs = traces_kept rs [] ∙ grown_all (traces rs)
