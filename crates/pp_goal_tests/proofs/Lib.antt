pub mod PlainCells
