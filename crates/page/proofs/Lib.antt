-- The laws of the page. Nothing here has to be believed: the checker does.
pub mod Lines
pub mod Box
