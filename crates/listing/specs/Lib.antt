-- What the contracts of the listing cite.
pub mod Put
pub mod Model
pub mod Block
