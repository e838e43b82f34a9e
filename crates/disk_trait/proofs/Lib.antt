mod Walks
mod Torn
mod ImageLemmas
mod Past
mod PlanLemmas
mod PublishLemmas
