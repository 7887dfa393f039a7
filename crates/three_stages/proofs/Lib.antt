pub mod FiniteTables
pub mod ListedTables
pub mod ListedReports
pub mod Example
