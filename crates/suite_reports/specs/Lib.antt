pub mod Check
pub mod ReportText
pub mod Rows
pub mod ParsedLine
pub mod Reports
