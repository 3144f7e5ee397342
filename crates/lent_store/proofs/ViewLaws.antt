-- A store belongs to the view of its file too.
use Rattle.std.proofs.Common.{◌≡◌, inl, inr, refl, subst, sym, List, ℕ}
use Rattle.lent_disk.specs.Disks.{lent_state}
use Rattle.lent_disk.specs.Notings.{Noting, content}
use Rattle.lent_disk.specs.Views.{no_image, view_state}
use Rattle.flush_run.specs.FlushFrames.{FlushFrame, OpensEither}
use Rattle.extent_table.specs.Extents.{Spots}
use Rattle.size_class.specs.declared.TheConstants.{CLASSES}
use Rattle.store_model.specs.Connection.{FlushInHand, IsConnected, StoreValue}
use Rattle.store_model.specs.Halves.{HalfAgrees, IsReadable, Origin, frame_at}

-- a disk without images asks for less
opens_unseen : (f : FlushFrame) (kept : Spots) (file : List ℕ) (may_leave : List ℕ → Type 0)
    → OpensEither f kept file may_leave → OpensEither f kept file no_image
opens_unseen f kept file may_leave is = record {
  t = is.t;
  m = is.m;
  b = is.b;
  checkpoint = is.checkpoint;
  opens = is.opens;
  images = λ rest image none. absurd none;
}

module _ (s : StoreValue) (n : Noting) where
  half_viewed : (h : FlushInHand) (o : Origin) → HalfAgrees CLASSES s h o (lent_state n)
      → HalfAgrees CLASSES s h o (view_state (content n) 0)
  half_viewed h o is = record {
    flies = record {
      content = is.flies.content;
      opens = λ fresh. opens_unseen (frame_at CLASSES s h o) s.kept (content n) (lent_state n).may_leave
          (is.flies.opens fresh);
    };
    loose = is.loose;
  }

  pub connected_viewed : IsConnected CLASSES s (lent_state n)
      → IsConnected CLASSES s (view_state (content n) 0)
  connected_viewed c = record { idle = c.idle; over = λ whole told. c.over whole refl }

  pub readable_viewed : IsReadable CLASSES s (lent_state n) → IsReadable CLASSES s (view_state (content n) 0)
  readable_viewed (inl c) = inl (connected_viewed c)
  readable_viewed (inr h) = inr (record {
    hand = h.hand;
    is = h.is;
    digests = h.digests;
    half = λ told. let at = h.half refl in (at.0, half_viewed h.hand at.0 at.1);
  })

-- by the bytes that are lent
pub readable_seen : (s : StoreValue) (n : Noting) (bytes : List ℕ) (refused : ℕ) → bytes ≡ content n
    → IsReadable CLASSES s (lent_state n) → IsReadable CLASSES s (view_state bytes refused)
readable_seen s n bytes refused same is =
    subst (λ (file : List ℕ). IsReadable CLASSES s (view_state file refused)) (sym same)
    (by (readable_viewed s n is))
  where
    by : IsReadable CLASSES s (view_state (content n) 0)
        → IsReadable CLASSES s (view_state (content n) refused)
    by (inl c) = inl (record { idle = c.idle; over = c.over })
    by (inr h) = inr (record {
      hand = h.hand;
      is = h.is;
      digests = h.digests;
      half = λ told. let at = h.half refl in (at.0, record { flies = at.1.flies; loose = at.1.loose });
    })
