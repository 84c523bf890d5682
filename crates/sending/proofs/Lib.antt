pub mod Answered
pub mod Sheets
