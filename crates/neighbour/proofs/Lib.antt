mod Alikes
