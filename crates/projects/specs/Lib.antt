pub mod Projects
pub mod Patterson
pub mod Tables
pub mod Form
pub mod Made
