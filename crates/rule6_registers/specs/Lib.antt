pub mod ValueWords
