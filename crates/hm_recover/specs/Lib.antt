pub mod Damage
pub mod Put
pub mod Recovery
pub mod Stop
