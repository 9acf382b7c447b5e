pub mod ClassLayout
pub mod Classes
pub mod FaultText
pub mod Layouts
pub mod Readings
pub mod Releases
pub mod Views
