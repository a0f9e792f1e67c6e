mod Words
mod Cells
mod Takes
mod Clears
