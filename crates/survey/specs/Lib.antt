pub mod Intake
pub mod Totals
