-- What the contracts of the test programs' shared parts cite.
pub mod Stop
pub mod Number
