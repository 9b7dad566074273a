pub mod Steps
pub mod StepsView
