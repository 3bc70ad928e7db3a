-- What a lock is seen as: which one it is, and how many seats it was made with.
use Rattle.std.specs.Prelude.{ℕ}
use Rattle.atomic_table.specs.Seated.{TableId}

abbrev pub Lock : Type 0
Lock = TableId × ℕ

abbrev pub seat_count : Lock → ℕ
seat_count lock = lock.1
