use Rattle.std.proofs.Common.{◌≡◌, inl, inr}
use Rattle.std.specs.Prelude.{◌⊎◌}
use Rattle.load_stream.specs.declared.fault.LoadFault.TheVariants as load_fault
use Rattle.lent_store.specs.Streams.{FailsToOpen}
use Rattle.lent_store.proofs.NotedLaws.{noted_since}
use Rattle.lent_store.proofs.stream.open_loaded.Goals as goal

pub returns-in-Ok-clause-noted : goal.returns-in-Ok-clause-noted
returns-in-Ok-clause-noted c =
    noted_since c.args.disk c.open-opened.new.disk c.open-opened.ensures.frame.stays.same_mount
    c.is_noted.ensures.log

pub returns-in-Err-clause-refused : goal.returns-in-Err-clause-refused
returns-in-Err-clause-refused c =
    elim c.fault_of.ensures as (λ _. (c.fault_of.result ≡ load_fault.NoMemory)
    ⊎ ((c.fault_of.result ≡ load_fault.Disk) × FailsToOpen c.args.disk)) [
      | inl memory ↦ inl memory.1
      | inr other ↦ inr (
        other.1,
        record {
          now = c.open-opened.new.disk;
          refusal = c.in-Err.fault;
          opening = c.in-Err.ensures;
          memory = other.0;
          same_mount = c.open-opened.ensures.frame.stays.same_mount;
          cause = c.is_noted.ensures.cause;
        },
      )
    ]
