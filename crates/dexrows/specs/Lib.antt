pub mod Numbers
pub mod KeyOrders
pub mod Join
pub mod Joined
pub mod Listed
pub mod internal
