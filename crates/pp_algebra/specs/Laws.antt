-- The laws of rows, covering, generalisation and solving, as statements.
use Rattle.std.specs.Prelude.{◌≡◌, ℕ, ℤ, ◌<ℤ◌, ◌⊎◌, ◌↔◌, true, List, [], ◌∷◌, ◌++◌, AllPairs, Option, nat_eq}
use Rattle.std.specs.FinSet as set
use Rattle.pp_algebra.specs.Terms.{Trees, variable, count, put_all, variables_all}
use Rattle.pp_algebra.specs.Rows.{Domains, Pattern, Row, domain_at, beside, Domain, IsCanonical, IsRow}
use Rattle.pp_algebra.specs.Covers.{RowCovers, IsIn}
use Rattle.pp_algebra.specs.Members.{IsInteger, members}
use Rattle.pp_algebra.specs.Canon.{canon, same_row}
use Rattle.pp_algebra.specs.Least.{least_row}
use Rattle.pp_algebra.specs.Joins.{Joins, rows_of, joined, AllOf, AreOfWidth, SameRows}
use Rattle.pp_algebra.specs.Solve.{Item, Holds, Meets, IsSolved, HasNone, Solvable, SameItems, HaveSameSolution}
use Rattle.pp_algebra.specs.Stages.{pattern, ColumnsSpeakOf, ItemsSpeakOf, problem_at_once, problem_in_stages}

abbrev pub CoversItself : Type 0
CoversItself = (r : Row) → RowCovers r r

abbrev pub CoversThrough : Type 0
CoversThrough = (r q p : Row) → RowCovers r q → RowCovers q p → RowCovers r p

abbrev pub CoversBothWays : Type 0
CoversBothWays = (r q : Row) → IsCanonical r → IsCanonical q → RowCovers r q → RowCovers q r → r ≡ q

abbrev pub SameIsEqual : Type 0
SameIsEqual = (r q : Row) → (same_row r q ≡ true) ↔ (r ≡ q)

-- the members of a domain ascend, and they are the integers of the language that lie in it
abbrev pub MembersAscend : Type 0
MembersAscend = (d : Domain) → AllPairs (λ n m. n <ℤ m) (members d)

abbrev pub MembersAreContained : Type 0
MembersAreContained = (d : Domain) (n : ℤ) → IsIn n (members d) ↔ (IsInteger n × (set.contains d n ≡ true))

-- the least generalisation is canonical, covers each row of as many columns, and is covered by whatever covers each
abbrev pub LeastIsCanonical : Type 0
LeastIsCanonical = (r : Row) (rs : List Row) → IsCanonical (least_row r rs)

abbrev pub LeastCovers : Type 0
LeastCovers = (r : Row) (rs : List Row) (q : Row) → IsIn q (r ∷ rs) → count q.columns ≡ count r.columns → RowCovers (least_row r rs) q

abbrev pub LeastIsLeast : Type 0
LeastIsLeast = (r : Row) (rs : List Row) (s : Row) → ((q : Row) → IsIn q (r ∷ rs) → RowCovers s q) → RowCovers s (least_row r rs)

-- it depends on which rows there are, and not on their order or number
abbrev pub LeastOfSame : Type 0
LeastOfSame = (r q : Row) (rs qs : List Row) → AreOfWidth (r ∷ rs) r → SameRows (r ∷ rs) (q ∷ qs) → least_row r rs ≡ least_row q qs

-- two rows may change places
abbrev pub LeastCommutes : Type 0
LeastCommutes = (r q : Row) → count q.columns ≡ count r.columns → least_row r (q ∷ []) ≡ least_row q (r ∷ [])

abbrev pub LeastAssociates : Type 0
LeastAssociates = (n : ℕ) (r q p : Row) → AllOf n (r ∷ q ∷ p ∷ []) → least_row (least_row r (q ∷ [])) (p ∷ []) ≡ least_row r (least_row q (p ∷ []) ∷ [])

-- a row and itself give that row
abbrev pub LeastIsIdempotent : Type 0
LeastIsIdempotent = (r : Row) → IsCanonical r → least_row r (r ∷ []) ≡ r

-- of more rows it is more general
abbrev pub LeastOfMore : Type 0
LeastOfMore = (r : Row) (rs more : List Row) → AreOfWidth (r ∷ rs) r → RowCovers (least_row r (rs ++ more)) (least_row r rs)

-- of rows of one width it is a row: each domain is `any` or has at least two integers
abbrev pub LeastIsRow : Type 0
LeastIsRow = (r : Row) (rs : List Row) → AreOfWidth (r ∷ rs) r → IsRow r → ((q : Row) → IsIn q rs → IsRow q) → IsRow (least_row r rs)

-- two lists may be generalised first each by itself
abbrev pub LeastInParts : Type 0
LeastInParts = (r q : Row) (rs qs : List Row) → AreOfWidth ((r ∷ rs) ++ (q ∷ qs)) r → least_row (least_row r rs) (least_row q qs ∷ []) ≡ least_row r (rs ++ q ∷ qs)

-- joins in any order, any grouping and with repeats give the least generalisation of the whole list
abbrev pub JoinsGiveLeast : Type 0
JoinsGiveLeast = (n : ℕ) (r : Row) (rs : List Row) (j : Joins) → AllOf n (r ∷ rs) → SameRows (r ∷ rs) (rows_of j) → joined j ≡ least_row r rs

-- other numbers for the variables that can be taken back, with the same domains, give the same canonical row
abbrev pub RenamedIsSame : Type 0
RenamedIsSame = (p : Pattern ℕ) (ds : Domains ℕ) (f g : ℕ → ℕ) → ((v : ℕ) → IsIn v (variables_all p.columns) → (g (f v) ≡ v) × (ds (f v) ≡ p.domains v))
    → canon nat_eq (pattern (put_all (λ v. variable (f v)) p.columns) ds) ≡ canon nat_eq p

-- a problem has at most one most general row
abbrev pub SolvedOnce : Type 0 → Type 0
SolvedOnce V = (p : Pattern V) (items : List (Item V)) (r q : Row) → IsSolved p items r → IsSolved p items q → r ≡ q

-- a row meets the items exactly where the most general row covers it
abbrev pub SolvedCovers : Type 0 → Type 0
SolvedCovers V = (p : Pattern V) (items : List (Item V)) (r : Row) → IsSolved p items r → (q : Row) → IsRow q → Meets p items q ↔ RowCovers r q

abbrev pub SolvedInAnyOrder : Type 0 → Type 0
SolvedInAnyOrder V = (p : Pattern V) (items others : List (Item V)) → SameItems items others → HaveSameSolution (p, items) (p, others)

-- an item that the most general row meets already changes nothing
abbrev pub SolvedWithMore : Type 0 → Type 0
SolvedWithMore V = (p : Pattern V) (items : List (Item V)) (i : Item V) (r : Row) (h : IsSolved p items r) → Holds (domain_at r.domains) h.meets.by i → IsSolved p (i ∷ items) r

-- solving and taking some of the columns is solving for these columns
abbrev pub SolvedForSome : Type 0 → Type 0
SolvedForSome V = (ts us : Trees V) (ds : Domains V) (items : List (Item V)) (r : Row) (h : IsSolved (pattern ts ds) items r) → ((v : V) → IsIn v (variables_all us) → IsIn v (variables_all ts))
    → IsSolved (pattern us ds) items (canon nat_eq (pattern (put_all h.meets.by us) (domain_at r.domains)))

-- whether a row meets the items does not lie in the columns
abbrev pub NoneForAny : Type 0 → Type 0
NoneForAny V = (ts us : Trees V) (ds : Domains V) (items : List (Item V)) → HasNone (pattern ts ds) items → HasNone (pattern us ds) items

-- the row of the first items, and then of the later ones from that row on, is the row of all of them at once; W are fresh variables of the second stage
abbrev pub SolvedInStages : Type 0 → Type 0 → Type 0
SolvedInStages U W = (ts : Trees U) (ds : Domains U) (items : List (Item U)) (r : Row) (h : IsSolved (pattern ts ds) items r) (us : Trees (U ⊎ W)) (later : List (Item (U ⊎ W))) → ColumnsSpeakOf ts us → ItemsSpeakOf ts later
    → HaveSameSolution (problem_at_once W ds items us later) (problem_in_stages W h.meets.by (domain_at r.domains) us later)

-- columns and items over the variables of a row have a solution or none, whatever the domains are: empty ones and those of one integer too
abbrev pub RowsSolve : Type 0
RowsSolve = (ds : List (Option Domain)) (ts : Trees ℕ) (items : List (Item ℕ)) → Solvable (pattern ts (domain_at ds)) items

-- and so have those over the variables of two rows
abbrev pub PairsSolve : Type 0
PairsSolve = (ds es : List (Option Domain)) (ts : Trees (ℕ ⊎ ℕ)) (items : List (Item (ℕ ⊎ ℕ))) → Solvable (pattern ts (beside (domain_at ds) (domain_at es))) items
