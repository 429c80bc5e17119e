-- The share of a port, as document 02, L10 sets it out, and what is promised of it.
pub mod Demands
pub mod Share
-- For the code's own functions:
pub mod Above
-- What is claimed of the share: it is the greatest, whatever the order of the demands; it rises with the capacity;
-- and what is held to it fits.
pub mod Greatest
pub mod Order
pub mod Capacity
pub mod Held
-- And computed:
pub mod Examples
