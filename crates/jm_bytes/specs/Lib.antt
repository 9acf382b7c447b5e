pub mod ByteOrder
pub mod Checks
pub mod Metered
pub mod Results
pub mod Word
