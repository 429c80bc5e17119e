-- A payload's octets in words. (Document 01, "The cell, 53 octets".)
pub mod Payload
