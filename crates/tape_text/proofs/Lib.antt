mod Cuts
mod Fields
mod Names
mod Shown
mod Spelling
