-- Test: tests as facts. Word: words against their values, for every crate that keeps values as words. Packed: what the result of an operation
-- says. Exact: 64 bits hold what an operation on two values gives. Range: the test that a value is in 32 bits. Floor: rounding down from division
-- toward zero. Shifted: results that stay above the bias.
pub mod Test
pub mod Word
pub mod Packed
pub mod Exact
pub mod Range
pub mod Floor
pub mod Shifted
