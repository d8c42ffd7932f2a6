pub mod Operand
pub mod OperandView
pub mod Fixed
pub mod SteppedView
pub mod Primitives
pub mod Axes
pub mod Fit
