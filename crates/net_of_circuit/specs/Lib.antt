pub mod FlatOrder
pub mod NetOf
pub mod Numbers
pub mod Lowering
