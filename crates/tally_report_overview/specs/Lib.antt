pub mod internal
pub mod CountryText
pub mod ProgressText
pub mod ReturnsText
pub mod StationsReport
pub mod StationsText
pub mod Views
