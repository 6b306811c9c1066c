pub mod Psplib
