pub mod Ack
pub mod AsRules
pub mod Fields
pub mod FieldsAsRules
pub mod Types
