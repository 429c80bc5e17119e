-- What the code's own functions find in a cell.
pub mod RefusedAsRead
