mod Congruence
mod Inverse
mod Tables
