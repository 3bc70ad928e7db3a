pub mod Stores
pub mod Turns
pub mod Histories
pub mod Runs
pub mod Watchers
pub mod Replies
pub mod Laws
pub mod Examples
