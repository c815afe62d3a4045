pub mod Tags
pub mod SameReports
pub mod Absent
pub mod Reports
pub mod Inside
pub mod Runs
pub mod Plain
