pub mod Donating
pub mod Inside
pub mod Asking
pub mod Laws
