mod Orders
mod Names
mod OneSort
mod OwnFiles
mod Texts
