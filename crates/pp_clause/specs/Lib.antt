pub mod Predicates
pub mod Places
pub mod Firsts
pub mod Goals
pub mod Laws
pub mod Table
pub mod Index
