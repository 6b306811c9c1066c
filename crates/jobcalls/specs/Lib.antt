pub mod Sequenced
