pub mod Listing
pub mod Look
pub mod Marks
pub mod Views
pub mod Walk
