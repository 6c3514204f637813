pub mod NumberLemmas
pub mod FieldLemmas
pub mod FormLemmas
pub mod PackLemmas
pub mod ListLemmas
pub mod ChainLemmas
