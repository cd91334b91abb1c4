-- The laws of the listing. Nothing here has to be believed: the checker does.
pub mod Laws
