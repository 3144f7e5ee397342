mod RingLaws
mod HoldLaws
mod LineLaws
mod TextLaws
mod QueueLaws
mod KnownLaws
