mod RefusalLaws
mod WorkLaws
mod StepsLemmas
mod StepsLaws
mod SummaryLaws
mod WorkingLaws
mod CachedLaws
