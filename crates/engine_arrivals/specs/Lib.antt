-- What the search for the connection of a received data cell finds.
pub mod Owner
