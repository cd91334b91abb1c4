-- What the contracts of the calls for C and Rust hosts cite.
pub mod Report
pub mod Port
