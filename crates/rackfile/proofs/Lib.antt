mod Again
mod Words
mod Parts
mod Trips
