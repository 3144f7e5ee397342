-- A handle may go to another thread, as what it holds may.
use base.Fraction.{full_share}
use base.Shift.{Keyless}
use mir.Raw.{raw}
use denote.Exit.{Exit, unchanged, leaves, hidden, under}
use denote.Memory.{lone}
use denote.RawPtr.{Ptr, block_ptr, null_ptr, lies_at}
use denote.Struct.Struct.{exits_of}
use denote.Struct.Owning.{shape, fields, to}
use denote.Param.Send.{IsSend, Quiet, AllSend, part_keyless, owning_send, struct_send, sendable}
use Rattle.lent_disk.proofs.log.Log.TheSendSync.{the_send as log_send}
use Rattle.lent_disk.proofs.room.Room.TheSendSync.{the_send as room_send}
use Rattle.lent_disk.proofs.trail.Trail.TheSendSync.{the_send as trail_send}
use Rattle.store_core.proofs.store.Store.TheSendSync.{the_send as store_send}
use Rattle.std.proofs.Crossing.{frees, crosses}
use Rattle.std.proofs.alloc.Global.TheSendSync as heap
use Rattle.store_handle.specs.contracts.Held.{the_row as R}
use Rattle.store_handle.specs.contracts.Handle.{the_row, the_type}

the_send : IsSend R
the_send = search (sendable, crosses, log_send, room_send, trail_send, store_send) depth 40

quiet : {D X : Type 0} (to : D → X) (e : Exit X) → Quiet e → Quiet (hidden (under to e))
quiet to unchanged q = λ x w. tt
quiet to (leaves L l S s r₀) q = λ d. q (to d)

lies : (p : Ptr) (x : R.Denot) → Keyless (lies_at R full_share p x)
lies (block_ptr b o) x = part_keyless R the_send full_share x b o
lies null_ptr x = tt

pub send : IsSend the_row
send =
    let all : AllSend (fields the_type) = (search sendable, (heap.the_field_send, tt)) in
    owning_send the_type all (λ d. (lies d.ptr d.value, frees.frees d.alloc (raw (lone R.mir)) d.ptr))
    (λ k. quiet (to the_type) (exits_of k (fields the_type)) ((struct_send (shape the_type) all).leaving k))
