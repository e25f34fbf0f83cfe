mod Places
mod Numbers
mod Saying
mod Readings
mod Parts
mod Functions
mod Written
mod Steps
