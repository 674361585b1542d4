mod Claiming
mod Telling
mod Whole
