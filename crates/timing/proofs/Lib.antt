-- What is proved: `Theorems` has the chief statements; `Witness`, `Needed` and `Late` that they are not empty, need what they ask, and are not so of
-- every rule.
pub mod Theorems
pub mod Witness
pub mod Needed
pub mod Late
-- Numbers of ticks.
pub mod Counts
pub mod Streams
pub mod Bags
-- Calls: at instants, and what they leave of jobs and sections.
pub mod Instants
pub mod Jobs
pub mod Marks
pub mod Sections
pub mod Cover
pub mod Executing
-- The argument.
pub mod Figures
pub mod Given
pub mod Pace
pub mod Start
pub mod Window
pub mod Charges
pub mod LowSections
pub mod Touched
pub mod Blocks
pub mod Blocking
pub mod Releases
-- Calls that come to an end.
pub mod Finite
