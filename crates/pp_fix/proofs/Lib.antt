mod Widths
mod Waking
mod Marking
mod Turning
mod Watched
mod Resting
