pub mod State
pub mod Others
pub mod Unposted
pub mod Sensors
pub mod Slots
pub mod Outbox
