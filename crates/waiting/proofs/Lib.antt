mod Chains
mod Places
mod Seats
