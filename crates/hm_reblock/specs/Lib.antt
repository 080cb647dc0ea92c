pub mod Choice
pub mod Stages
pub mod Moving
