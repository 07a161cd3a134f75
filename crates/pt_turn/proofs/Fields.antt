pub mod ClaimLists
pub mod Chains
pub mod Queues
