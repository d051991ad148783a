pub mod Schedules
pub mod Systems
