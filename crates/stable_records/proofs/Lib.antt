mod TellingLemmas
mod StandingLemmas
mod CutLemmas
pub mod CallerLemmas
