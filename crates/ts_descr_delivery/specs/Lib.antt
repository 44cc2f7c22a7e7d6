-- The definitions of the delivery system descriptors as values.
pub mod DeliveryFields
pub mod DeliveryDescrs
