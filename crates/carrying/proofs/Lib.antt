-- Laws of what the loop holds, and of each change carried out.
pub mod Fitting
pub mod Holding
pub mod Arms
