pub mod Texts
pub mod Script
pub mod Audit
pub mod ScriptDesk
pub mod Journal
