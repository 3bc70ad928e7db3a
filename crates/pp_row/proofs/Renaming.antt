-- Numbering of variables, cell by cell.
use Rattle.std.proofs.Common.{◌≡◌, ℕ, zero, suc, ◌<◌, ◌≤◌, List, [], ◌∷◌, ◌++◌, length, map, ◌+◌, take, drop, get_or, refl, ap, sym, ◌∙◌, inl, arith, add-one, append_assoc, append-nil, drop-cons, All, subst}
use Rattle.std.specs.Prelude.{nat_eq, slice_set}
use Rattle.std.proofs.lemmas.List.{map-append, length-take-le, take_more, take_all, drop_all}
use Rattle.std.proofs.lemmas.List.Elements.{All-nil, All-cons, All-head, All-tail}
use Rattle.std.proofs.Math.ListN.{length-map}
use Rattle.std.proofs.Math.Seq.{set-append_seam, get_or-append_seam}
use Rattle.pp_row.specs.declared.cell.Cell.{Cell}
use Rattle.pp_row.specs.declared.cell.Cell.TheVariants.{Int, Atom, Compound, Var}
use Rattle.pp_algebra.specs.Terms.{Tree, int, node, variable, Trees, none, more, count, put, put_all, variables, variables_all}
use Rattle.pp_algebra.specs.Canon.{has, place, firsts}
use Rattle.pp_algebra.specs.Covers.{IsIn}
use Rattle.pp_algebra.proofs.CanonLemmas.{nat_eq-IsSame, has-all}
use Rattle.pp_algebra.proofs.Order.{IsIn-left, IsIn-right}
use Rattle.pp_row.proofs.Numbering.{firsts-append, place_stays}
use Rattle.pp_row.specs.Cells.{cells_of, cells_of_all, head_of, variables_in, variables_among, renamed, IsLegalCell}
use Rattle.pp_row.specs.Reading.{tree_of, IsOneTerm}
use Rattle.pp_row.specs.Codes.{tree_of-cells_of}
use Rattle.pp_algebra.proofs.Put.{count-put_all}

pub among-append : (cs ds : List Cell) → variables_among (cs ++ ds) ≡ variables_among cs ++ variables_among ds
among-append [] ds = refl
among-append (c ∷ cs) ds = ap (λ vs. variables_in c ++ vs) (among-append cs ds) ∙ sym (append_assoc (variables_in c) (variables_among cs) (variables_among ds))

among-head : (f k : ℕ) (cs : List Cell) → variables_among (head_of f k ∷ cs) ≡ variables_among cs
among-head f zero cs = refl
among-head f (suc k) cs = refl

mutual
  pub among-cells_of : (t : Tree ℕ) → variables_among (cells_of t) ≡ variables t
  among-cells_of (int n) = refl
  among-cells_of (node f ts) = among-head f (count ts) (cells_of_all ts) ∙ among-cells_of_all ts
  among-cells_of (variable v) = refl

  pub among-cells_of_all : (ts : Trees ℕ) → variables_among (cells_of_all ts) ≡ variables_all ts
  among-cells_of_all none = refl
  among-cells_of_all (more t ts) = among-append (cells_of t) (cells_of_all ts) ∙ rw (among-cells_of t, among-cells_of_all ts) refl

module _ (f : ℕ → ℕ) where
  renamed-head : (g k : ℕ) → renamed f (head_of g k) ≡ head_of g k
  renamed-head g zero = refl
  renamed-head g (suc k) = refl

  mutual
    pub renamed-cells_of : (t : Tree ℕ) → map (renamed f) (cells_of t) ≡ cells_of (put (λ v. variable (f v)) t)
    renamed-cells_of (int n) = refl
    renamed-cells_of (node g ts) = rw (renamed-head g (count ts), count-put_all (λ v. variable (f v)) ts, renamed-cells_of_all ts) refl
    renamed-cells_of (variable v) = refl

    renamed-cells_of_all : (ts : Trees ℕ) → map (renamed f) (cells_of_all ts) ≡ cells_of_all (put_all (λ v. variable (f v)) ts)
    renamed-cells_of_all none = refl
    renamed-cells_of_all (more t ts) = map-append (renamed f) (cells_of t) (cells_of_all ts) ∙ rw (renamed-cells_of t, renamed-cells_of_all ts) refl

  legal-renamed : (c : Cell) → IsLegalCell c → IsLegalCell (renamed f c)
  legal-renamed (Int n) l = l
  legal-renamed (Atom a) l = l
  legal-renamed (Compound g k) l = l
  legal-renamed (Var v) l = tt

  all_renamed : (cs : List Cell) → All IsLegalCell cs → All IsLegalCell (map (renamed f) cs)
  all_renamed [] h = All-nil IsLegalCell
  all_renamed (c ∷ cs) h = All-cons IsLegalCell (renamed f c) (map (renamed f) cs) (legal-renamed c (All-head IsLegalCell c cs h)) (all_renamed cs (All-tail IsLegalCell c cs h))

  pub renamed_term : (cs out : List Cell) → IsOneTerm cs → out ≡ map (renamed f) cs → IsOneTerm out × (tree_of out ≡ put (λ v. variable (f v)) (tree_of cs))
  renamed_term cs out h e =
      let p : out ≡ cells_of (put (λ v. variable (f v)) (tree_of cs)) = e ∙ ap (map (renamed f)) (sym h.whole) ∙ renamed-cells_of (tree_of cs) in
      let t : tree_of out ≡ put (λ v. variable (f v)) (tree_of cs) = ap (λ ds. tree_of ds) p ∙ tree_of-cells_of (put (λ v. variable (f v)) (tree_of cs)) in
      (record { legal = subst (All IsLegalCell) (sym e) (all_renamed cs h.legal); whole = ap cells_of t ∙ sym p }, t)

agree_cell : (f g : ℕ → ℕ) (c : Cell) → ((v : ℕ) → IsIn v (variables_in c) → f v ≡ g v) → renamed f c ≡ renamed g c
agree_cell f g (Int n) h = refl
agree_cell f g (Atom a) h = refl
agree_cell f g (Compound x k) h = refl
agree_cell f g (Var v) h = ap Var (h v (inl refl))

agree : (f g : ℕ → ℕ) (cs : List Cell) → ((v : ℕ) → IsIn v (variables_among cs) → f v ≡ g v) → map (renamed f) cs ≡ map (renamed g) cs
agree f g [] h = refl
agree f g (c ∷ cs) h =
    rw (agree_cell f g c (λ v i. h v (IsIn-left v (variables_in c) (variables_among cs) i)), agree f g cs (λ v i. h v (IsIn-right v (variables_in c) (variables_among cs) i))) refl

seam_read : (front : List Cell) (x : Cell) (after : List Cell) (i : ℕ) (d : Cell) → length front ≡ i → get_or (front ++ x ∷ after) i d ≡ x
seam_read front x after i d e = ap (λ k. get_or (front ++ x ∷ after) k d) (sym e) ∙ get_or-append_seam front x after d

seam_written : (front : List Cell) (x : Cell) (after : List Cell) (i : ℕ) (y : Cell) → length front ≡ i → slice_set (front ++ x ∷ after) i y ≡ front ++ y ∷ after
seam_written front x after i y e = ap (λ k. slice_set (front ++ x ∷ after) k y) (sym e) ∙ set-append_seam front x after y

-- one more cell is numbered: those before keep their numbers
pub numbered_more :
    (orig now : List Cell) (i : ℕ) (old names new : List ℕ) (c e d : Cell)
    → i < length orig
    → names ≡ firsts nat_eq old (variables_among (take i orig))
    → now ≡ map (renamed (place nat_eq names)) (take i orig) ++ drop i orig
    → c ≡ get_or now i d
    → new ≡ firsts nat_eq names (variables_in c)
    → e ≡ renamed (place nat_eq new) c
    → (new ≡ firsts nat_eq old (variables_among (take (i + 1) orig))) × (slice_set now i e ≡ map (renamed (place nat_eq new)) (take (i + 1) orig) ++ drop (i + 1) orig)
numbered_more orig now i old names new c e d within n w r m q =
    let x = get_or orig i d in
    let before = take i orig in
    let after = drop (i + 1) orig in
    let front = map (renamed (place nat_eq names)) before in
    let long : length front ≡ i = length-map before (renamed (place nat_eq names)) ∙ length-take-le i orig (omega arith) in
    let parts : now ≡ front ++ x ∷ after = w ∙ ap (λ cs. front ++ cs) (drop-cons orig i d within ∙ rw add-one refl) in
    let same : c ≡ x = r ∙ ap (λ cs. get_or cs i d) parts ∙ seam_read front x after i d long in
    let more : take (i + 1) orig ≡ before ++ x ∷ [] = take_more orig i d within in
    let keep : map (renamed (place nat_eq new)) before ≡ front =
    agree (place nat_eq new) (place nat_eq names) before (λ v among. ap (λ ns. place nat_eq ns v) m ∙ place_stays nat_eq names (variables_in c) v (ap (λ ns. has nat_eq ns v) n ∙ has-all nat_eq nat_eq-IsSame old (variables_among before) v among)) in (
      m ∙ ap (λ ns. firsts nat_eq ns (variables_in c)) n ∙ sym (firsts-append nat_eq old (variables_among before) (variables_in c)) ∙ ap (firsts nat_eq old) (rw (more, among-append before (x ∷ []), append-nil, same) refl),
      ap (λ cs. slice_set cs i e) parts ∙ seam_written front x after i e long ∙ rw (more, map-append, keep, append_assoc, q, same) refl,
    )

pub record IsNumberedBy (orig now : List Cell) (old new : List ℕ) : Type 0 where
  pub names : new ≡ firsts nat_eq old (variables (tree_of orig))
  pub term : IsOneTerm now
  pub is : tree_of now ≡ put (λ v. variable (place nat_eq new v)) (tree_of orig)

pub all_numbered :
    (orig now : List Cell) (i : ℕ) (old names : List ℕ)
    → IsOneTerm orig
    → length orig ≤ i
    → names ≡ firsts nat_eq old (variables_among (take i orig))
    → now ≡ map (renamed (place nat_eq names)) (take i orig) ++ drop i orig
    → IsNumberedBy orig now old names
all_numbered orig now i old names h l n w =
    let t : take i orig ≡ orig = take_all i orig l in
    let r = renamed_term (place nat_eq names) orig now h (w ∙ rw (t, drop_all i orig l, append-nil) refl) in
    record {
      names = n ∙ ap (λ cs. firsts nat_eq old (variables_among cs)) (t ∙ sym h.whole) ∙ ap (firsts nat_eq old) (among-cells_of (tree_of orig));
      term = r.0;
      is = r.1;
    }
