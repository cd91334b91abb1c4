-- One file for each notion. Nothing here has to be believed: the checker does.
pub mod Keys
pub mod Ranges
pub mod Class
pub mod Run
pub mod Decimal
