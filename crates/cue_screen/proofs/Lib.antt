mod LawLemmas
mod PictureLemmas
mod PlainLemmas
mod RowLemmas
mod TerminalLemmas
mod WritingLemmas
