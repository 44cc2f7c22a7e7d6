mod MaskedBits
mod Writes
mod Digits
mod Loops
mod Rows
