mod Gathered
mod NextAccess
