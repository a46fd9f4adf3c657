-- What holds of the definitions: `Theorems` and `AllowanceLaws` have the chief statements, and the others lead there.
pub mod Theorems
pub mod AllowanceLaws
pub mod VectorLaws
pub mod AnswerLaws
pub mod SystemLaws
pub mod SolverSteps
pub mod SolverRight
pub mod Worth
pub mod OnWay
pub mod Sweep
pub mod LoweredLaws
pub mod RoundLaws
pub mod RoundSweep
pub mod LastRound
-- The loops of solver, round and rounds, for the proofs of code.
pub mod SolverLoop
pub mod RoundLoop
pub mod RoundsLoop
-- That the laws are not empty.
pub mod TwoVectors
