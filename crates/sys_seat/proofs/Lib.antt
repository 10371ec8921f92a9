pub mod Seats
pub mod Rooms
pub mod Actions
