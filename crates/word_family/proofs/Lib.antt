pub mod Links
pub mod MemberShifts
pub mod MemberStability
pub mod Members
pub mod Readings
