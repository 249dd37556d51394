mod Parts
mod WordBits
