mod ProgramIsSimple
mod MatchLemmas
mod Made
mod Refusals
mod Examples
