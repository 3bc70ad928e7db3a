pub mod Cells
pub mod HeightLaws
pub mod Heights
