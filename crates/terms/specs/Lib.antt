-- What the contracts of terms cite.
pub mod Environment
pub mod Results
pub mod Machine
pub mod Parts
pub mod Calls
pub mod Arguments
