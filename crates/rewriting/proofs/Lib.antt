mod Steps
mod Sheets
mod Ways
