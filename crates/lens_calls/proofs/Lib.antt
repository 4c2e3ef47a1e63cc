mod AnswerLemmas
mod CompareLemmas
mod FileLemmas
mod TellLemmas
