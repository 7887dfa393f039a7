pub mod Members
pub mod FourWords
pub mod BitRows
pub mod Ascending
pub mod ListRecords
pub mod FourWordsLemmas
pub mod ListRecordsLemmas
