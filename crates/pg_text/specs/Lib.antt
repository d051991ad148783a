pub mod FormFaults
pub mod Texts
pub mod Answers
pub mod Printing
pub mod Worked
