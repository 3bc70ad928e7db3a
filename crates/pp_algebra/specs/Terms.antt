-- Terms: finite trees over any kind of variables. An atom is a name without arguments.
use Rattle.std.specs.Prelude.{ℕ, ℤ, suc, ◌+◌, List, [], ◌∷◌, ◌++◌}

mutual
  pub data Tree (V : Type 0) : Type 0 where
    int : ℤ → Tree V
    node : ℕ → Trees V → Tree V
    variable : V → Tree V

  -- a list of terms: arguments, or the columns of a row
  pub data Trees (V : Type 0) : Type 0 where
    none : Trees V
    more : Tree V → Trees V → Trees V

abbrev pub count : {V : Type 0} → Trees V → ℕ
count none = 0
count (more t ts) = suc (count ts)

-- substitution: each variable is replaced by its term, everywhere at once
abbrev mutual
  pub put : {V W : Type 0} → (V → Tree W) → Tree V → Tree W
  put s (int n) = int n
  put s (node f ts) = node f (put_all s ts)
  put s (variable v) = s v

  pub put_all : {V W : Type 0} → (V → Tree W) → Trees V → Trees W
  put_all s none = none
  put_all s (more t ts) = more (put s t) (put_all s ts)

-- the variables from left to right, each as often as it stands there
abbrev mutual
  pub variables : {V : Type 0} → Tree V → List V
  variables (int n) = []
  variables (node f ts) = variables_all ts
  variables (variable v) = v ∷ []

  pub variables_all : {V : Type 0} → Trees V → List V
  variables_all none = []
  variables_all (more t ts) = variables t ++ variables_all ts

-- the terms of both lists, one list after the other
abbrev pub join : {V : Type 0} → Trees V → Trees V → Trees V
join none us = us
join (more t ts) us = more t (join ts us)

-- how many names, integers and variables stand in a term
abbrev mutual
  pub size : {V : Type 0} → Tree V → ℕ
  size (int n) = 1
  size (node f ts) = suc (size_all ts)
  size (variable v) = 1

  pub size_all : {V : Type 0} → Trees V → ℕ
  size_all none = 0
  size_all (more t ts) = size t + size_all ts
