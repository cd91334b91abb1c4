-- The laws of the mover. Nothing here has to be believed: the checker does.
pub mod Laws
