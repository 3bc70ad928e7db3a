-- What hands, peeks and what is left are seen as.
use Rattle.std.specs.Prelude.{◌≡◌, ℕ, Bool, false, List, [], ◌∷◌}
use Rattle.crossbeam_deque.specs.Handles as deque
use Rattle.pp_deal.specs.declared.hand.Hand.{Hand}
use Rattle.pp_deal.specs.declared.hand.Peek.{Peek}
use Rattle.pp_deal.specs.declared.hand.Left.{Left}
use Rattle.pp_deal.specs.Steps.{Held, left_of}

module _ {T : Type 0} where
  -- what the hand offered, in order
  abbrev pub offered : Hand T → List T
  offered h = (deque.worker_view h.worker).offered

  -- what the hand itself took, in order
  abbrev pub taken : Hand T → List T
  taken h = (deque.worker_view h.worker).taken

  -- how many peeks it gave
  abbrev pub peeks_given : Hand T → ℕ
  peeks_given h = (deque.worker_view h.worker).peeks

  -- it knows that all it offered is gone
  abbrev pub is_drained : Hand T → Bool
  is_drained h = h.drained

  abbrev pub IsSameDeque : Hand T → Hand T → Type 0
  IsSameDeque h k = deque.worker_deque k.worker ≡ deque.worker_deque h.worker

  -- the same deque and as many peeks
  pub record SameHand (h k : Hand T) : Type 0 where
    pub deque : IsSameDeque h k
    pub peeks : peeks_given k ≡ peeks_given h

  pub record IsNew (h : Hand T) : Type 0 where
    pub offered : offered h ≡ []
    pub taken : taken h ≡ []
    pub peeks : peeks_given h ≡ 0
    pub drained : is_drained h ≡ false

  -- at a moment of a call the deque held nothing, or this item before all others
  abbrev pub HeldNothing : Hand T → Type 0
  HeldNothing h = Held [] (deque.worker_view h.worker)

  abbrev pub HeldFirst : T → Hand T → Type 0
  HeldFirst item h = (rest : List T) × Held (item ∷ rest) (deque.worker_view h.worker)

  abbrev pub IsPeekOf : Hand T → Peek T → Type 0
  IsPeekOf h p = deque.stealer_deque p.stealer ≡ deque.worker_deque h.worker

  abbrev pub IsSamePeek : Peek T → Peek T → Type 0
  IsSamePeek p q = deque.stealer_deque q.stealer ≡ deque.stealer_deque p.stealer

  -- what the peek stole, in order
  abbrev pub stolen : Peek T → List T
  stolen p = (deque.view p.pass).taken

  -- how many items of the deque the peek knows to be gone
  abbrev pub known_gone : Peek T → ℕ
  known_gone p = deque.taken p.pass

  abbrev pub SawNothing : Peek T → Type 0
  SawNothing p = Held [] (deque.view p.pass)

  abbrev pub SawFirst : T → Peek T → Type 0
  SawFirst item p = (rest : List T) × Held (item ∷ rest) (deque.view p.pass)

  -- the items that are left, in order
  abbrev pub left : Left T → List T
  left l = left_of (deque.worker_view l.worker)
