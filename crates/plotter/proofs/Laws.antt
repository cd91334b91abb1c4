-- Bits: a bit put into a register, and masks. Step: the cases of a step. Histories: what is said of actions goes over to histories. What holds of
-- every history, from every state of the registers and for every listing: Sent, of the bytes; Unnamed, of the bits without a name; Registers, of
-- sum and data; Pending, of the interrupt.
pub mod Bits
pub mod Step
pub mod Histories
pub mod Sent
pub mod Unnamed
pub mod Registers
pub mod Pending
