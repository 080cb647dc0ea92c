pub mod Records
pub mod Systems
