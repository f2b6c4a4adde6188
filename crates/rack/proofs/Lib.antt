mod Bytes
mod Keyed
