-- The laws of the specification. Nothing here has to be believed: the checker does.
pub mod Laws
pub mod Cases
