-- What a reader must believe of the port. The laws are under proofs/.
pub mod Port
pub mod History
