mod Words
mod Digits
mod Names
mod Ways
mod Promises
