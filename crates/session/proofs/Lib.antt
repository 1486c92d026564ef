-- Laws that the proofs cite.
pub mod WalkLaws
pub mod SessionLaws
pub mod PortionLaws
pub mod HeldLaws
pub mod LayLaws
pub mod RunLaws
pub mod StopLaws
pub mod StepLaws
pub mod WholeLaws
