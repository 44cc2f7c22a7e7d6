-- The definitions of items whose first fields say which others they have, and of items with items in them.
pub mod ItemForms
