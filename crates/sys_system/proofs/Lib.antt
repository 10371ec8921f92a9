pub mod Types
pub mod Tables
pub mod Seats
pub mod Laws
