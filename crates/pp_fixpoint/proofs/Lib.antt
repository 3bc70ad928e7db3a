pub mod Narrowed
pub mod Faces
pub mod Settled
pub mod Sizes
pub mod Enough
pub mod Worked
