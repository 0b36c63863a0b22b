pub mod AppendLemmas
pub mod GroupLemmas
pub mod RefusalLemmas
pub mod ShownLemmas
