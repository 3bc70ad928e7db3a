-- The laws of works and paths, as statements.
use Rattle.std.specs.Prelude.{◌≡◌, ℕ, ◌⊎◌, List, ◌++◌, Some, None}
use Rattle.pp_algebra.specs.Covers.{IsIn}
use Rattle.pp_sld.specs.Trees.{Search}
use Rattle.pp_sld.specs.Trace.{Leaf, leaves}
use Rattle.pp_sld.specs.Paths.{PathComesTo}
use Rattle.pp_sld.specs.Works.{Level, Work, spent, at, places, worth, path_worth, down, next, split, IsLater}

-- on to the next sibling: what is given up are the leaves at the path alone
abbrev pub NextKeeps : Type 0
NextKeeps = (w : Work) (t : Search) → worth w t ≡ path_worth w t ++ worth (next w) t

-- a work without a sibling left is worth the leaves at its path
abbrev pub LastIsPath : Type 0
LastIsPath = (w : Work) (t : Search) → next w ≡ spent → worth w t ≡ path_worth w t

-- split in two: first the leaves of what stays, then those of what is split off
abbrev pub SplitKeeps : Type 0
SplitKeeps = (w a b : Work) (t : Search) → split w ≡ Some (a, b) → worth w t ≡ worth a t ++ worth b t

-- nothing can be split off exactly where there is no next sibling
abbrev pub SplitsWhereNext : Type 0
SplitsWhereNext = (w : Work) → ((split w ≡ None) × (next w ≡ spent)) ⊎ ((p : Work × Work) × (q : List Level) × (split w ≡ Some p) × (next w ≡ at q))

-- down into a choice of n alternatives, to which the path comes: nothing is given up
abbrev pub DownKeeps : Type 0
DownKeeps = (ls : List Level) (n : ℕ) (t : Search) → PathComesTo n (places ls) t → worth (down n (at ls)) t ≡ worth (at ls) t

-- a leaf of a work is a leaf of the tree
abbrev pub WorthIsInside : Type 0
WorthIsInside = (w : Work) (t : Search) (x : Leaf) → IsIn x (worth w t) → IsIn x (leaves t)

-- the order of works
abbrev pub NoneIsLater : Type 0
NoneIsLater = (w : Work) → IsLater w w → ⊥

abbrev pub LaterThrough : Type 0
LaterThrough = (u v w : Work) → IsLater u v → IsLater v w → IsLater u w

-- what is gone on to, gone down to or split off is later
abbrev pub NextIsLater : Type 0
NextIsLater = (w : Work) → (next w ≡ spent) ⊎ IsLater (next w) w

abbrev pub DownIsLater : Type 0
DownIsLater = (ls : List Level) (n : ℕ) → IsLater (down n (at ls)) (at ls)

abbrev pub SplitIsLater : Type 0
SplitIsLater = (ls ks js : List Level) → split (at ls) ≡ Some (at ks, at js) → (places ks ≡ places ls) × IsLater (at js) (at ls)
