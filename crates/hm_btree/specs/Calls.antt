pub mod Change
pub mod Choice
pub mod Insert
pub mod Move
pub mod Near
pub mod Remove
pub mod Space
