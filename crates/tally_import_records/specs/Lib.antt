pub mod internal
pub mod Separator
pub mod Watch
pub mod Input
pub mod RecordsValue
pub mod Given
