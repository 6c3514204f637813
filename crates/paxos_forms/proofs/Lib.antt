pub mod Parts
pub mod Listed
pub mod GiveForms
pub mod WelcomeForms
pub mod MessageForms
