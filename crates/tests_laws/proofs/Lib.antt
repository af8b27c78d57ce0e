mod Arrivals
mod Crashed
