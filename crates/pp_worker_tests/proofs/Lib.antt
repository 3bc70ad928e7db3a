mod Loads
mod Spans
