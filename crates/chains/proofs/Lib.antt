pub mod Laying
pub mod Linking
pub mod Filling
pub mod Index
