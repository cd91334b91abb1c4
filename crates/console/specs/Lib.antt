-- What the contracts of the console cite.
pub mod Went
