pub mod OnePolicy
pub mod Window
pub mod Inside
pub mod TwoPolicies
pub mod ConfigFault
