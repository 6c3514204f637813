mod Apart
mod Kept
mod Stepping
