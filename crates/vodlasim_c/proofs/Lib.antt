-- The law of the port's calls, and the proofs of this crate's functions. Nothing here has to be believed: the checker does.
pub mod Calls
