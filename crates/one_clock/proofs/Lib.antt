mod Lists
mod Tabling
mod Inputs
mod Standing
mod Placing
mod Chaining
mod Faulting
