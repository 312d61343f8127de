mod Given
mod OneItem
mod Printing
mod Refused
mod Statuses
