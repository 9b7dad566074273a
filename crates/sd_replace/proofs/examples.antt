pub mod CoverTests
