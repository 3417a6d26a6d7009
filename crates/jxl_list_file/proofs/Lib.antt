mod Left
mod Paste
