mod Places
mod Comparisons
mod Covering
mod Layouts
