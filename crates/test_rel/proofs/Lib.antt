mod Limits
mod OnlyTables
