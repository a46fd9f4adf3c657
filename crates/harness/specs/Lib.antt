-- What the contracts of `harness` cite.
pub mod Stop
pub mod Sums
