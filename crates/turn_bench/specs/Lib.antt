pub mod Teams
