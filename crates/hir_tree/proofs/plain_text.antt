pub mod PlainTextLemmas
