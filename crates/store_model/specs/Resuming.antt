-- What goes on with an interrupted flush, and of what a store is made.
use Rattle.std.specs.Prelude.{◌≡◌, ℕ, ◌<◌, ◌≤◌, ◌^◌, false, [], IsPermutation, vec_len, IsTrue}
use Rattle.std.specs.FinMap as fin
use Rattle.size_class.specs.Classes.{zero_row}
use Rattle.size_class.specs.declared.TheConstants.{SIZE_MAX}
use Rattle.slot_codec.specs.Readable.{IsSuperBlock}
use Rattle.slot_codec.specs.Reading.{is_version}
use Rattle.slot_codec.specs.Spelling.{cap, head_len}
use Rattle.logged_pair.specs.Slots.{has_logs, used_in}
use Rattle.segment_layout.specs.Layouts.{caps_of, divisor_of, grid_of}
use Rattle.table_rules.specs.Rules.{IsValid}
use Rattle.extent_table.specs.Extents.{IsTable, digests_seen}
use Rattle.placement_model.specs.Laid.{settled_table}
use Rattle.flush_model.specs.Phases.{PlanState, phase_of}
use Rattle.flush_model.specs.Resumed.{numbers_again}
use Rattle.flush_run.specs.declared.hands.Hands.{Hands}
use Rattle.flush_run.specs.Hands.{suffix_items}
use Rattle.flush_run.specs.Parts.{HandsValue}
use Rattle.reopen.specs.declared.state.Loaded.{Loaded}

-- The parts of a flush that goes on are those of the table that was read; nothing was moved since, and no
-- space is held but where objects stand.
pub record StartsAgain {C : ℕ} (x : Loaded C) (y : HandsValue) : Type 0 where
  pub in_use : y.in_use ≡ x.slots
  pub plain : y.has_logs ≡ false
  pub table : y.table ≡ x.table
  pub divisor : y.divisor ≡ divisor_of x.layout
  pub caps : y.caps ≡ caps_of x.layout
  pub grid : y.grid ≡ grid_of x.layout
  pub spans : y.spans ≡ []
  pub room : y.room ≡ x.block.names
  pub moved : y.moved ≡ zero_row
  pub buffer : y.buffer ≡ 65536
  pub base : y.base ≡ head_len x.block.names
  pub version : y.version ≡ x.header.version

-- The phase has the items of the table's suffix, and the wall and the slack of its header.
pub record PacksAgain {C : ℕ} (x : Loaded C) (p : PlanState) : Type 0 where
  pub value : p ≡ phase_of (divisor_of x.layout) (caps_of x.layout)
      (numbers_again (divisor_of x.layout) (caps_of x.layout) x.header.boundary x.header.wall x.header.slack
      (suffix_items x.header.boundary x.table)) 0 p.items
  pub items : IsPermutation (suffix_items x.header.boundary x.table) p.items

-- A store may be made of these hands: the slots have no logs, what stands now is the checkpoint, the layout
-- holds it, and no other space is held.
pub record MakesStore {C : ℕ} (hands : Hands C) : Type 0 where
  pub few : C ≤ 32
  pub wide : SIZE_MAX < 2 ^ C
  pub block : IsSuperBlock (used_in hands.slots).block
  pub kept : hands.table.now ≡ hands.table.kept
  pub names : hands.table.names ≡ (used_in hands.slots).block.names
  pub digests : digests_seen hands.version hands.table.digests
      ≡ digests_seen hands.version hands.table.kept_digests
  pub cap : hands.table.cap ≡ cap (used_in hands.slots).block.names hands.version
  pub few_names : fin.len hands.table.now ≤ hands.table.cap
  pub divisor : divisor_of hands.layout ≡ (used_in hands.slots).block.k
  pub valid : IsValid (settled_table C SIZE_MAX (used_in hands.slots).block.k (caps_of hands.layout)
      (grid_of hands.layout) hands.table.now)
  pub table : IsTable hands.table
  pub spans : hands.guard.spans ≡ []
  pub guard_room : hands.guard.room ≡ (used_in hands.slots).block.names
  pub base : hands.base ≡ head_len (used_in hands.slots).block.names
  pub plain : has_logs hands.slots ≡ false
  pub version : IsTrue (is_version hands.version)
  pub buffer : vec_len hands.buf ≡ 65536
