mod CallSteps
mod CallTexts
mod Digits
mod Law
pub mod MemberSteps
mod Order
mod Rows
mod ScriptTexts
