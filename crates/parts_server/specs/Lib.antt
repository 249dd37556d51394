pub use Rattle.words_numbers.specs.Parameters
pub use Rattle.rules_server.specs.Server
pub mod ServerView
