mod Cases
mod Desks
mod Peeks
mod Written
