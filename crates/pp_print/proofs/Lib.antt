pub mod Left
pub mod Cells
pub mod Listed
pub mod Intervals
pub mod RowTexts
pub mod Marked
pub mod StoreLines
