-- The calls that a fuse has seen, and which of them it fails.
use Rattle.std.specs.Prelude.{ℕ, Bool, List, nat_le, if◌then◌else◌}
use Rattle.disk_face.specs.Counts.{counted}
use Rattle.disk_mem.specs.Lists.{is_listed, next_call}
use Rattle.disk_mem.specs.declared.calls.Rule.{Rule}
use Rattle.disk_mem.specs.declared.calls.Rule.TheVariants.{Listed, StopAfter}

-- the changing calls and the others of the listed numbers fail, or each call once so many changing calls were
-- made
pub data Breaks : Type 0 where
  ListedCalls : List ℕ → List ℕ → Breaks
  AfterChanges : ℕ → Breaks

abbrev pub breaks_of : Rule → Breaks
breaks_of (Listed changes reads) = ListedCalls changes.items reads.items
breaks_of (StopAfter n) = AfterChanges n

-- what fails, how many changing calls and how many others were made, and how many of each were failed here
pub record Calls : Type 0 where
  pub breaks : Breaks
  pub changes : ℕ
  pub reads : ℕ
  pub failed_changes : ℕ
  pub failed_reads : ℕ

-- no call was made
abbrev pub none_made : Breaks → Calls
none_made breaks = record { breaks = breaks; changes = 0; reads = 0; failed_changes = 0; failed_reads = 0 }

-- the next changing call fails; the first has number 1
abbrev pub fails_change : Breaks → ℕ → Bool
fails_change (ListedCalls changes reads) made = is_listed changes (next_call made)
fails_change (AfterChanges n) made = nat_le n made

-- the next call that isn't a changing one fails; the first has number 1
abbrev pub fails_read : Breaks → ℕ → ℕ → Bool
fails_read (ListedCalls changes reads) changes_made made = is_listed reads (next_call made)
fails_read (AfterChanges n) changes_made made = nat_le n changes_made

abbrev pub next_change_fails : Calls → Bool
next_change_fails calls = fails_change calls.breaks calls.changes

abbrev pub next_read_fails : Calls → Bool
next_read_fails calls = fails_read calls.breaks calls.changes calls.reads

-- one more where it failed
abbrev pub failures_after : Bool → ℕ → ℕ
failures_after fails before = if fails then counted before 1 else before

-- once the next changing call was made
abbrev pub after_change : Calls → Calls
after_change calls = record calls {
  changes = counted calls.changes 1;
  failed_changes = failures_after (next_change_fails calls) calls.failed_changes;
}

-- once the next call that isn't a changing one was made
abbrev pub after_read : Calls → Calls
after_read calls = record calls {
  reads = counted calls.reads 1;
  failed_reads = failures_after (next_read_fails calls) calls.failed_reads;
}
