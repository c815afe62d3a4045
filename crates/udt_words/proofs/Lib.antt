mod Positionals
mod Refusals
