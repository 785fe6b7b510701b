-- Laws of reading and writing digits.
pub mod Digits
pub mod Reading
pub mod Words
pub mod Buffers
pub mod Writing
