pub mod Tables
pub mod Components
pub mod Leading
