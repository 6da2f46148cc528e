pub mod Uploads
pub mod Served
pub mod Valid
pub mod Texts
pub mod Tables
pub mod Answers
pub mod Ticket
