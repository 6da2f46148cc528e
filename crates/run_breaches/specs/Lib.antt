pub mod Earlier
pub mod Rules
pub mod Highest
pub mod FirstBreach
pub mod BreachLaws
pub mod Slots
