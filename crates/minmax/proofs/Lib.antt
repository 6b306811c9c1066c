pub mod MinMax
