mod Clients
mod Ended
mod InOrder
mod Learned
