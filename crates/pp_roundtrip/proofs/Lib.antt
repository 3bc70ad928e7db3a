pub mod Spelled
pub mod WordTokens
pub mod Phrased
pub mod ReadBack
pub mod NamedKeys
pub mod Facts
pub mod TextNames
