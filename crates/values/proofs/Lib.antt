-- The laws that other crates cite. Nothing here has to be believed: the checker does.
pub mod Laws
