mod ChosenLemmas
mod GotOnLemmas
mod LeavingLemmas
mod LookedLemmas
mod StepLemmas
mod UnitLemmas
