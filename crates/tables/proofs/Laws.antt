-- Layout: the tables follow one another. Locals: sets of small numbers. Ranges: what a mark allows.
pub mod Layout
pub mod Locals
pub mod Ranges
