mod Reading
mod Scanning
