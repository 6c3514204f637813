pub mod Order
pub mod Sets
pub mod Above
pub mod ItemLemmas
pub mod ItemForms
