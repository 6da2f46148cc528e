pub mod Sums
pub mod Entering
pub mod Checking
pub mod SummedStable
pub mod Reading
pub mod Recalling
pub mod Damage
