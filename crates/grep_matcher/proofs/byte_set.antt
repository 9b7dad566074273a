pub mod ByteSetLemmas
