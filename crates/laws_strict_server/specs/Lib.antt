pub use Rattle.rules_server.specs.Server
pub mod Kinds
pub mod Instants
pub mod Facts
