mod FileLemmas
mod ProgramLemmas
