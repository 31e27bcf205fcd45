mod Marked
mod Told
