-- The laws for callers.
pub mod Laws
