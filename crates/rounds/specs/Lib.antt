-- The definitions, to be read in this order.
pub mod Vector
pub mod Answer
pub mod Solver
pub mod System
pub mod Rounds
pub mod Allowance
-- What the laws in proofs/ speak of besides.
pub mod SolverSteps
pub mod Worth
pub mod OnWay
pub mod Sweep
pub mod LastRound
-- The loops of solver, round and rounds, for the proofs of code.
pub mod SolverLoop
pub mod RoundLoop
pub mod RoundsLoop
-- A system with two agreeing vectors.
pub mod TwoVectors
