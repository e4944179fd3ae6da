pub mod Gives
pub mod Operand
pub mod Question
