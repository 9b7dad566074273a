pub mod QuotaLemmas
