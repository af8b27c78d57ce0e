pub mod Reboot
pub mod Runs
pub mod Stands
