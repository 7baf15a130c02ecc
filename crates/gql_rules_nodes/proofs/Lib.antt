mod CycleTold
mod FromStarts
mod OneName
mod Possible
