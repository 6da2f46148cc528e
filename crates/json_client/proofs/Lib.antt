pub mod Printed
pub mod Got
