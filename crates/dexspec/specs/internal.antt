-- Definitions that say nothing of the format or the product: terms of the contracts of calls and of the statements of
-- laws, and the codes by which the logic stores values.
pub mod Writing
pub mod IndexPlaces
pub mod OwnDirectories
pub mod Codes
