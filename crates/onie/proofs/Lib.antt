pub mod Forms
pub mod Opening
