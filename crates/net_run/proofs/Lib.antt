mod Forms
mod Places
mod Steps
mod Zeros
mod Nexts
mod Writes
mod Captures
mod Advances
