mod CutLemmas
mod OneSplitLemmas
mod PieceLemmas
mod SplitLemmas
mod ExpandingLemmas
mod OneAnswerLemmas
mod EachAnswerLemmas
mod SomeOutputLemmas
