pub mod Applying
mod Candidates
mod ChangedFaces
mod Narrowing
pub mod Numbering
pub mod Renumbered
mod Renewing
mod Solving
mod Stored
mod FreshNumbers
mod Lists
mod Making
mod Noting
pub mod Opening
mod Planning
