-- That the refusals come in this order.
pub mod Noted
pub mod OpenCount
pub mod ReadOrder
pub mod Orders
