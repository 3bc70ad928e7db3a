pub mod Arguments
pub mod FirstNumbers
pub mod Numbering
pub mod RenumberedClauses
