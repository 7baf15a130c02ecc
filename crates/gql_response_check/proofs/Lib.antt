mod Judging
mod Leaves
mod Returning
mod Verdicts
