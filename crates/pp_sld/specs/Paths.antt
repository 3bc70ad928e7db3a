-- Paths into search trees: which subtree the places of a path lead to.
use Rattle.std.specs.Prelude.{◌≡◌, ℕ, zero, suc, List, [], ◌∷◌}
use Rattle.pp_sld.specs.Trees.{Search, answer, loose, refused, passed, choice, Searches, no_more, child, failed}
use Rattle.pp_sld.specs.Trace.{Leaf, leaves}

-- the children of the choice that a tree comes to, past built-ins
abbrev pub kids : Search → Searches
kids (answer c) = no_more
kids (loose c) = no_more
kids refused = no_more
kids (passed t) = kids t
kids (choice ts) = ts

abbrev pub skip : ℕ → Searches → Searches
skip zero ts = ts
skip (suc n) no_more = no_more
skip (suc n) (child t ts) = skip n ts
skip (suc n) (failed ts) = skip n ts

abbrev pub count_kids : Searches → ℕ
count_kids no_more = 0
count_kids (child t ts) = suc (count_kids ts)
count_kids (failed ts) = suc (count_kids ts)

-- of the first child, where it doesn't fail
abbrev pub of_first : (Search → List Leaf) → Searches → List Leaf
of_first f no_more = []
of_first f (child t ts) = f t
of_first f (failed ts) = []

-- the leaves of the subtree at a path, the place of a child at each choice
abbrev pub at_path : List ℕ → Search → List Leaf
at_path [] t = leaves t
at_path (k ∷ ks) t = of_first (at_path ks) (skip k (kids t))

-- a tree comes to a choice of n alternatives
abbrev pub ComesTo : ℕ → Search → Type 0
ComesTo n (answer c) = ⊥
ComesTo n (loose c) = ⊥
ComesTo n refused = ⊥
ComesTo n (passed t) = ComesTo n t
ComesTo n (choice ts) = count_kids ts ≡ n

abbrev pub FirstIs : (Search → Type 0) → Searches → Type 0
FirstIs f no_more = ⊥
FirstIs f (child t ts) = f t
FirstIs f (failed ts) = ⊥

-- and so does the subtree at a path
abbrev pub PathComesTo : ℕ → List ℕ → Search → Type 0
PathComesTo n [] t = ComesTo n t
PathComesTo n (k ∷ ks) t = FirstIs (PathComesTo n ks) (skip k (kids t))
