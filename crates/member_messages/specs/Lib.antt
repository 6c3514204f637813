pub mod Sending
pub mod Greeting
