pub mod Determined
mod ListedLaws
