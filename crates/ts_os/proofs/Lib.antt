mod FirstPlace
mod Waiting
