mod Crossing
mod Gathered
mod Probes
mod SeatedClients
mod Seen
mod ShareWalks
mod Sought
