pub mod Writing
pub mod Decimal
pub mod Texts
pub mod Printed
pub mod Worked
pub mod OneAnswer
