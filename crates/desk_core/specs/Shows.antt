-- Which desk a bench over a file stands for.
use Rattle.std.specs.Prelude.{◌≡◌, ℕ, ◌+◌, ◌*◌, ◌≤◌, List, Some, None}
use Rattle.store_model.specs.Connection.{FlushInHand, StoreValue, state_of}
use Rattle.store_model.specs.States.{State}
use Rattle.desk_model.specs.Desks.{Desk, Flush}
use Rattle.desk_queues.specs.Queues.{Holds, Queued}
use Rattle.desk_core.specs.Benches.{Bench}

-- A flush in hand is this one of a session: no more steps are left than it may take, its saves end within its
-- bounds, and the state is that after its request, whose map the file gives.
pub record ShowsFlush (s : StoreValue) (session : ℕ) (file : List ℕ) (h : FlushInHand) (t : State)
    (f : Flush) : Type 0 where
  pub of : f.session ≡ session
  pub left : h.left ≤ f.left
  pub least : f.least ≤ h.began + 1
  pub most : h.began + 2 * s.in_use.block.k + 1 ≤ f.most
  pub later : h.began ≤ s.in_use.sequence
  pub map : t.map ≡ (state_of s file).map
  pub kept : t.kept ≡ t.map
  pub book : t.book ≡ h.book_after
  pub kept_book : t.kept_book ≡ h.book_after

-- A store over a file has the state of a desk, and its flush in hand, if there is one, which a session's
-- request began.
pub record ShowsStore (s : StoreValue) (session : ℕ) (file : List ℕ) (d : Desk) : Type 0 where
  pub idle : s.in_hand ≡ None → (d.hand ≡ None) × (d.state ≡ state_of s file)
  pub held : (h : FlushInHand) → s.in_hand ≡ Some h
      → (f : Flush) × (d.hand ≡ Some f) × ShowsFlush s session file h d.state f

-- queues have what waits at a desk, and a store over a file its state and its flush
pub record ShowsParts (q : Queued) (s : StoreValue) (session : ℕ) (file : List ℕ) (d : Desk) : Type 0 where
  pub queues : Holds q d.queues
  pub store : ShowsStore s session file d

-- a bench over a file stands for a desk
abbrev pub Shows : Bench → List ℕ → Desk → Type 0
Shows b file d = ShowsParts b.queued b.store b.flush_of file d
