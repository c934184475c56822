pub mod PlainRuns
pub mod Verdict
pub mod Victims
pub mod PlainForm
