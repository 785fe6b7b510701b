-- Laws for `answer` and `print_answer`.
pub mod Answered
pub mod Written
