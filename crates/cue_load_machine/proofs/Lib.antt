pub mod TurnLemmas
mod ReplyLemmas
pub mod GoingLemmas
pub mod LifeLemmas
pub mod LawLemmas
mod StepLemmas
mod OftenLemmas
mod TimeLemmas
mod PlanLemmas
mod AddLemmas
mod SayingLemmas
mod TwiceLemmas
mod AnswerLemmas
mod DoneLemmas
