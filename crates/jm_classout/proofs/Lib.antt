pub mod ClassTexts
pub mod Loops
