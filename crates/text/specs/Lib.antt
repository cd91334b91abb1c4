-- What the contracts of this crate say beside the specification's own definitions.
pub mod Class
pub mod Decimal
