-- How far it is to the end of a search.
use Rattle.std.proofs.Common.{◌≡◌, ℕ, zero, suc, ◌+◌, ◌*◌, ◌<◌, ◌≤◌, arith, List, [], ◌∷◌, ◌++◌, length, ap, ◌⊎◌, inl, inr, length-append}
use Rattle.pp_sld.specs.Goals.{Program, Config}
use Rattle.pp_sld.specs.Ways.{Way, choices, next}
use Rattle.pp_sld.specs.Trees.{Search, Searches, answer, loose, refused, passed, choice, no_more, child, failed}
use Rattle.pp_sld.specs.Trace.{trace, trace_all}
use Rattle.pp_sld.specs.Paths.{kids, skip, count_kids, ComesTo}
use Rattle.pp_sld.specs.Works.{Level, siblings}
use Rattle.pp_sld.specs.Reach.{Chosen}
use Rattle.pp_sld.proofs.Standing.{stands_root, stands_choice}
use Rattle.pp_sld.proofs.Trees.{tree, choice_tree, goes_at}
use Rattle.pp_explore.specs.Standing.{back_by}
use Rattle.pp_explore.specs.Searching.{size, owed, owed_here}

-- ===== from one place of a choice to the next

pub fewer : (ts : Searches) (k : ℕ) → length (trace_all (skip (suc k) ts)) ≤ length (trace_all (skip k ts))
fewer no_more zero = omega arith
fewer (child t ts) zero = omega (arith, length-append (trace t) (trace_all ts))
fewer (failed ts) zero = omega arith
fewer no_more (suc k) = omega arith
fewer (child t ts) (suc k) = fewer ts k
fewer (failed ts) (suc k) = fewer ts k

pub one_fewer : (ts : Searches) (k : ℕ) → (count_kids ts ≤ k) ⊎ (suc (length (trace_all (skip (suc k) ts))) ≤ length (trace_all (skip k ts)))
one_fewer no_more k = inl (omega arith)
one_fewer (child t ts) zero = inr (omega (arith, length-append (trace t) (trace_all ts)))
one_fewer (failed ts) zero = inr (omega arith)
one_fewer (child t ts) (suc k) = elim (one_fewer ts k) [ inl h ↦ inl (omega (arith, h)) | inr h ↦ inr h ]
one_fewer (failed ts) (suc k) = elim (one_fewer ts k) [ inl h ↦ inl (omega (arith, h)) | inr h ↦ inr h ]

-- a tree that comes to a choice of n alternatives has n children
kids_there : (n : ℕ) (t : Search) → ComesTo n t → count_kids (kids t) ≡ n
kids_there n (answer c) h = absurd h
kids_there n (loose c) h = absurd h
kids_there n refused h = absurd h
kids_there n (passed t) h = kids_there n t h
kids_there n (choice ts) h = h

module _ (clauses : Program) where
  pub smaller : (c : Config) (now end : ℕ) → now < end → size clauses c (suc now) end < size clauses c now end
  smaller c now end h = elim (one_fewer (kids (tree clauses c)) now) [
    | inl k ↦ omega (arith, h, k, fewer (kids (tree clauses c)) now)
    | inr k ↦ omega (arith, h, k)
  ]

  -- an alternative that is taken
  pub smaller_chosen : (c : Config) (now end : ℕ) (q : Config) → Chosen clauses c now q → 3 * length (trace (tree clauses q)) + 3 + size clauses c (suc now) end ≤ size clauses c now end
  smaller_chosen c now end q g =
      let e = ap length (goes_at clauses g.0 (kids (tree clauses c)) now g.2 q g.3 g.4 (choice_tree clauses c g.0 g.1).1) in
      omega (arith, e, length-append (trace (tree clauses q)) (trace_all (skip (suc now) (kids (tree clauses c)))))

  -- a choice of as many alternatives as there are
  pub size_whole : (c : Config) (ws : List Way) (n : ℕ) → next clauses c ≡ choices ws → n ≡ length ws → size clauses c 0 n ≡ 3 * length (trace (tree clauses c))
  size_whole c ws n e k =
      let comes : ComesTo (length ws) (tree clauses c) = stands_choice clauses c [] c ws (stands_root clauses c) e in
      omega (arith, k, ap length (choice_tree clauses c ws e).0, kids_there (length ws) (tree clauses c) comes)

  -- ===== back

  pub owed_back : (behind : List Level) (l : Level) (front : List Level) (cs : List Config) (e : Config) → length cs ≡ length behind + suc (length front)
      → owed_here clauses (back_by (suc (length behind)) cs e) (siblings l ∷ front) ≤ owed clauses cs (behind ++ l ∷ front)
  owed_back [] l front [] e h = absurd (omega (arith, h))
  owed_back [] l front (b ∷ bs) e h = omega arith
  owed_back (m ∷ behind) l front [] e h = absurd (omega (arith, h))
  owed_back (m ∷ behind) l front (b ∷ bs) e h = omega (arith, owed_back behind l front bs b (omega (arith, h)))
