pub mod Names
pub mod Words
pub mod TableText
pub mod Worked
pub mod WorkedOwners
pub mod WorkedVariants
