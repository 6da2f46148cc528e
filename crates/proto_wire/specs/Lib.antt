pub mod Flight
pub mod FlightValues
