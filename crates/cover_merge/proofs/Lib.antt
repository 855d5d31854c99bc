mod Standing
mod Sizes
mod Listed
mod Behind
mod Ahead
mod Folded
mod Numbered
mod Heights
pub mod Merged
mod Differing
mod TwoFiles
mod Uniting
mod Judged
mod Alike
mod Mapped
mod Laid
mod Refused
