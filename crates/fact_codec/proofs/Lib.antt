pub mod HeadLemmas
pub mod ValueLemmas
pub mod FieldLemmas
pub mod FactLemmas
pub mod OneFact
pub mod AddressLemmas
mod Prelude
