pub mod FlatOf
