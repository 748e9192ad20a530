mod Holding
mod Rewinding
