pub mod SchemeAnswering
pub mod ManyRoutes
pub mod Faults
pub mod OnDevices
pub mod Places
pub mod Tabling
