-- Lists of levels: where they split, how they move on, and that they stay levels.
use Rattle.std.proofs.Common.{◌≡◌, ℕ, zero, suc, rules, ◌+◌, ◌-◌, ◌<◌, Bool, true, false, cond, List, [], ◌∷◌, ◌++◌, length, map, get_or, take, drop, set, Some, None, refl, ap, sym, ◌∙◌, subst, arith, true≢false}
use Rattle.std.proofs.Math.Seq.{drop-cons, get_or-append_seam, set-append_seam}
use Rattle.std.proofs.lemmas.Bool.{lt-ltb}
use Rattle.pp_sld.specs.Works as works
use Rattle.pp_sld.specs.Works.{level, moved, next_levels, behind, split_levels, works_of}
use Rattle.pp_path.specs.declared.levels.Level.{Level}
use Rattle.pp_path.specs.Works as here
use Rattle.pp_path.specs.Works.{level_by, work_by, has_sibling, AreLevels, SplitsAt, AreLast, skipped, HasMore}

-- ===== where a path splits

pub splits_within : (ls : List Level) (k : ℕ) → SplitsAt ls k → k < length ls
splits_within [] k h = absurd h
splits_within (l ∷ ls) zero h = omega (arith)
splits_within (l ∷ ls) (suc k) h = let r = splits_within ls k h.1 in omega (arith, r)

-- what a walk along the levels knows: where what is ahead splits, the whole splits, and where nothing is ahead, nothing is
abbrev pub Ahead : List Level → ℕ → Type 0
Ahead ls i = ((k : ℕ) → SplitsAt (drop i ls) k → SplitsAt ls (i + k)) × (AreLast (drop i ls) → AreLast ls)

pub found : (ls : List Level) (i : ℕ) (d : Level) → i < length ls → has_sibling (get_or ls i d) ≡ true → Ahead ls i → SplitsAt ls i
found ls i d lt h a =
    let e : i + 0 ≡ i = omega arith in
    subst (SplitsAt ls) e (a.0 0 (subst (λ x. SplitsAt x 0) (sym (drop-cons ls i d lt)) h))

pub gone_on : (ls : List Level) (i : ℕ) (d : Level) → i < length ls → has_sibling (get_or ls i d) ≡ false → Ahead ls i → Ahead ls (i + 1)
gone_on ls i d lt h a =
    let one : i + 1 ≡ suc i = omega arith in
    subst (Ahead ls) (sym one) (
      (λ k s. let e : i + suc k ≡ suc i + k = omega arith in subst (SplitsAt ls) e (a.0 (suc k) (subst (λ x. SplitsAt x (suc k)) (sym (drop-cons ls i d lt)) (h, s)))),
      (λ s. a.1 (subst AreLast (sym (drop-cons ls i d lt)) (h, s))),
    )

pub splits_sibling : (ls : List Level) (k : ℕ) (d : Level) → SplitsAt ls k → has_sibling (get_or ls k d) ≡ true
splits_sibling [] k d h = absurd h
splits_sibling (l ∷ ls) zero d h = h
splits_sibling (l ∷ ls) (suc k) d h = splits_sibling ls k d h.1

pub splits_nowhere : (ls : List Level) → AreLast ls → split_levels (map level_by ls) ≡ None
splits_nowhere [] h = refl
splits_nowhere (l ∷ ls) h =
    ap (λ b. cond b (Some (level l.now (suc l.now) ∷ map level_by ls, level (suc l.now) l.end ∷ [])) (behind (level_by l) (split_levels (map level_by ls)))) h.0
    ∙ ap (behind (level_by l)) (splits_nowhere ls h.1)

pub splits : (ls : List Level) (k : ℕ) (d : Level) → SplitsAt ls k
    → split_levels (map level_by ls) ≡ Some (map level_by (set ls k (here.code_level (get_or ls k d).now (suc (get_or ls k d).now))), map level_by (take k ls ++ here.code_level (suc (get_or ls k d).now) (get_or ls k d).end ∷ []))
splits [] k d h = absurd h
splits (l ∷ ls) zero d h = ap (λ b. cond b (Some (level l.now (suc l.now) ∷ map level_by ls, level (suc l.now) l.end ∷ [])) (behind (level_by l) (split_levels (map level_by ls)))) h
splits (l ∷ ls) (suc k) d h =
    ap (λ b. cond b (Some (level l.now (suc l.now) ∷ map level_by ls, level (suc l.now) l.end ∷ [])) (behind (level_by l) (split_levels (map level_by ls)))) h.0
    ∙ ap (behind (level_by l)) (splits ls k d h.1)

-- ===== how a path moves on

-- what comes of a path whose last level has a sibling left, or not
pub next_last : (ls : List Level) (l : Level) (b : Bool) → has_sibling l ≡ b
    → next_levels (map level_by (ls ++ l ∷ [])) ≡ cond b (Some (map level_by (ls ++ here.code_level (suc l.now) l.end ∷ []))) (next_levels (map level_by ls))
next_last [] l b h = ap (λ c. cond c (Some (level (suc l.now) l.end ∷ [])) None) h
next_last (m ∷ ls) l true h = ap (moved (level_by m)) (next_last ls l true h)
next_last (m ∷ ls) l false h = ap (moved (level_by m)) (next_last ls l false h)

-- ===== levels

pub levels_take : (ls : List Level) (k : ℕ) → AreLevels ls → AreLevels (take k ls)
levels_take [] zero h = tt
levels_take [] (suc k) h = tt
levels_take (l ∷ ls) zero h = tt
levels_take (l ∷ ls) (suc k) h = (h.0, levels_take ls k h.1)

pub levels_snoc : (ls : List Level) (l : Level) → AreLevels ls → l.now < l.end → AreLevels (ls ++ l ∷ [])
levels_snoc [] l h k = (k, tt)
levels_snoc (m ∷ ls) l h k = (h.0, levels_snoc ls l h.1 k)

pub levels_front : (ls : List Level) (l : Level) → AreLevels (ls ++ l ∷ []) → AreLevels ls
levels_front [] l h = tt
levels_front (m ∷ ls) l h = (h.0, levels_front ls l h.1)

pub levels_set : (ls : List Level) (k : ℕ) (l : Level) → AreLevels ls → l.now < l.end → AreLevels (set ls k l)
levels_set [] k l h e = h
levels_set (m ∷ ls) zero l h e = (e, h.1)
levels_set (m ∷ ls) (suc k) l h e = (h.0, levels_set ls k l h.1 e)

-- a level with a sibling left
pub sibling_is_level : (l : Level) → has_sibling l ≡ true → suc l.now < l.end
sibling_is_level l h = search rules

-- ===== works

pub none_split : (b : Bool) (ls : List Level) → AreLast ls → None ≡ works.split (work_by (cond b None (Some ls)))
none_split true ls h = refl
none_split false ls h = sym (ap works_of (splits_nowhere ls h))

pub some_split : (b : Bool) (ls : List Level) (k : ℕ) (d : Level) → (b ≡ true → ls ≡ []) → SplitsAt ls k
    → Some (work_by (cond b None (Some (set ls k (here.code_level (get_or ls k d).now (suc (get_or ls k d).now))))), work_by (Some (take k ls ++ here.code_level (suc (get_or ls k d).now) (get_or ls k d).end ∷ []))) ≡ works.split (work_by (cond b None (Some ls)))
some_split true ls k d e h = absurd (subst (λ x. SplitsAt x k) (e refl) h)
some_split false ls k d e h = sym (ap works_of (splits ls k d h))

pub length_snoc : (ls : List Level) (l : Level) → length (ls ++ l ∷ []) ≡ suc (length ls)
length_snoc [] l = refl
length_snoc (m ∷ ls) l = ap suc (length_snoc ls l)

pub no_snoc : (ls : List Level) (l : Level) → ls ++ l ∷ [] ≡ [] → ⊥
no_snoc [] l e = (cc)
no_snoc (m ∷ ls) l e = (cc)

-- a path whose last level has a sibling left moves on there
pub some_next : (b : Bool) (ls : List Level) (l : Level) → (b ≡ true → ls ++ l ∷ [] ≡ []) → has_sibling l ≡ true
    → work_by (cond b None (Some (ls ++ here.code_level (suc l.now) l.end ∷ []))) ≡ works.work_of (next_levels (map level_by (ls ++ l ∷ [])))
some_next true ls l e h = absurd (no_snoc ls l (e refl))
some_next false ls l e h = sym (ap works.work_of (next_last ls l true h))

-- so many children on at the last level
pub skipped_last : (n : ℕ) (ls : List Level) (l : Level) → l.now + n < l.end → works.at (map level_by (ls ++ here.code_level (l.now + n) l.end ∷ [])) ≡ skipped n (works.at (map level_by (ls ++ l ∷ [])))
skipped_last zero ls l h = let e : l.now + 0 ≡ l.now = omega arith in ap (λ k. works.at (map level_by (ls ++ here.code_level k l.end ∷ []))) e
skipped_last (suc n) ls l h =
    let on : Level = here.code_level (suc l.now) l.end in
    let e : l.now + suc n ≡ suc l.now + n = omega arith in
    let s : has_sibling l ≡ true = lt-ltb (suc l.now) l.end (omega (arith, h)) in
    ap (λ k. works.at (map level_by (ls ++ here.code_level k l.end ∷ []))) e
    ∙ (skipped_last n ls on (omega (arith, h))
    ∙ ap (skipped n) (some_next false ls l (λ f. absurd (true≢false (sym f))) s))

-- the levels of a work that has more at the last one
pub levels_with_more : (b : Bool) (ls : List Level) (n : ℕ) → HasMore (cond b None (Some ls)) n → (b ≡ false) × (front : List Level) × (l : Level) × (ls ≡ front ++ l ∷ []) × (l.now + n < l.end)
levels_with_more true ls n h = absurd (cc h.2)
levels_with_more false ls n h = (refl, h.0, h.1, cc h.2, h.3)

-- the last level goes on, as it is written
pub moved_last : (ls ds front new : List Level) (l : Level) (n k : ℕ) → ds ≡ ls → ls ≡ front ++ l ∷ [] → k ≡ length ls → new ≡ set ls (k - 1) (here.code_level ((get_or ds (k - 1) (here.code_level 0 0)).now + n) (get_or ds (k - 1) (here.code_level 0 0)).end) → new ≡ front ++ here.code_level (l.now + n) l.end ∷ []
moved_last ls ds front new l n k same e many put =
    let place : k - 1 ≡ length front = omega (arith, many, ap length e, length_snoc front l) in
    let old : get_or ds (k - 1) (here.code_level 0 0) ≡ l = ap (λ v. get_or v (k - 1) (here.code_level 0 0)) (same ∙ e) ∙ (ap (λ j. get_or (front ++ l ∷ []) j (here.code_level 0 0)) place ∙ get_or-append_seam front l [] (here.code_level 0 0)) in
    put
    ∙ (ap (λ (x : Level). set ls (k - 1) (here.code_level (x.now + n) x.end)) old
    ∙ (ap (λ v. set v (k - 1) (here.code_level (l.now + n) l.end)) e
    ∙ (ap (λ j. set (front ++ l ∷ []) j (here.code_level (l.now + n) l.end)) place
    ∙ set-append_seam front l [] (here.code_level (l.now + n) l.end))))

-- what comes of a work, by its levels
pub next_of : (b : Bool) (ls : List Level) → (b ≡ true → ls ≡ []) → works.next (work_by (cond b None (Some ls))) ≡ works.work_of (next_levels (map level_by ls))
next_of true ls e = ap (λ (x : List Level). works.work_of (next_levels (map level_by x))) (sym (e refl))
next_of false ls e = refl

-- ===== the levels of a split, as they are written

module _ (ls ds : List Level) (k : ℕ) (e : ds ≡ ls) where
  -- the level that is split
  abbrev pub split_at : Level
  split_at = get_or ls k (here.code_level 0 0)

  next_place : split_at.now + 1 ≡ suc split_at.now
  next_place = omega arith

  pub split_off : (es new : List Level) → es ≡ ls → new ≡ take k es ++ here.code_level ((get_or ds k (here.code_level 0 0)).now + 1) (get_or ds k (here.code_level 0 0)).end ∷ [] → new ≡ take k ls ++ here.code_level (suc split_at.now) split_at.end ∷ []
  split_off es new f g =
      g
      ∙ ap (λ v. take k v ++ here.code_level ((get_or ds k (here.code_level 0 0)).now + 1) (get_or ds k (here.code_level 0 0)).end ∷ []) f
      ∙ ap (λ v. take k ls ++ here.code_level ((get_or v k (here.code_level 0 0)).now + 1) (get_or v k (here.code_level 0 0)).end ∷ []) e
      ∙ ap (λ n. take k ls ++ here.code_level n split_at.end ∷ []) next_place

  pub split_stays : (new : List Level) → new ≡ set ls k (here.code_level (get_or ds k (here.code_level 0 0)).now ((get_or ds k (here.code_level 0 0)).now + 1)) → new ≡ set ls k (here.code_level split_at.now (suc split_at.now))
  split_stays new g =
      g
      ∙ ap (λ v. set ls k (here.code_level (get_or v k (here.code_level 0 0)).now ((get_or v k (here.code_level 0 0)).now + 1))) e
      ∙ ap (λ n. set ls k (here.code_level split_at.now n)) next_place
