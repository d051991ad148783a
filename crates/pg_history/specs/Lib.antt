pub mod HistoryText
pub mod JournalText
