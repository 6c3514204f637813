mod Lists
mod Moved
mod Taken
mod Projected
