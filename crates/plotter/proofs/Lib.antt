-- The laws of the port, its telling cases, and the proofs of its functions. Nothing here has to be believed: the checker does.
pub mod Laws
pub mod Cases
