-- Which byte of a word is which character, and the number of its eight digits.
pub mod EightDigits
