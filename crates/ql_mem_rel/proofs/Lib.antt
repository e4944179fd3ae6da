mod PlaceLemmas
mod PieceLemmas
mod TableLemmas
mod CheckLemmas
mod SchemaLemmas
mod ColumnLemmas
mod RelLemmas
mod FormedLemmas
