-- The laws that the programs share.
pub mod Parts
