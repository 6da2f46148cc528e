pub use Rattle.agreement as agreement
pub use Rattle.agreement_rules as agreement_rules
pub use Rattle.ballots as ballots
pub use Rattle.histories as histories
pub use Rattle.lawful_histories as lawful_histories
pub use Rattle.node_events as node_events
pub use Rattle.safe_histories as safe_histories
pub use Rattle.table_types as table_types
pub use Rattle.table_versions as table_versions
pub mod Limits
pub mod Told
pub mod Traced
pub mod Applying
pub mod Runs
