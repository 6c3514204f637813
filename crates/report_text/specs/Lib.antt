pub mod Lines
pub mod Faults
pub mod Reports
pub mod Shown
pub mod Reporting
pub mod Summaries
