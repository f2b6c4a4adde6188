mod Binds
mod Parts
mod Exchanged
mod Noise
mod Laboratory
mod Places
mod Runs
mod Opens
