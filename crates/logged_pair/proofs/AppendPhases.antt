-- What is left by each of the two steps of a save as an entry: the other slot is closed, and the entry is
-- appended.
use Rattle.std.specs.Prelude.{◌≡◌, ◌⊎◌, ℕ, ◌+◌, ◌-◌, ◌<◌, ◌≤◌, ◌==◌, true, false, nat_lt, not, IsTrue, List, length, Ok, refl}
use Rattle.std.proofs.Common.{◌∙◌, ap, arith, inl, inr, sym, subst}
use Rattle.std.proofs.lemmas.Bool.{cases_Bool, cond-false, cond-true, ltb-true}
use Rattle.byte_ranges.specs.Ranges.{SameFrom, SameOutside}
use Rattle.byte_ranges.proofs.RangeLaws.{SameOutside-refl}
use Rattle.disk_face.specs.Frames.{Unchanged}
use Rattle.disk_face.specs.Moments.{Leaves}
use Rattle.disk_face.specs.States.{State}
use Rattle.disk_face.specs.Writes.{WritesWithin}
use Rattle.disk_face.proofs.MomentLaws.{Leaves-weaken}
use Rattle.slot_codec.specs.Changes.{Change}
use Rattle.slot_codec.specs.Choice.{InUse, is_open, slot_in}
use Rattle.slot_codec.specs.Entries.{entry_room}
use Rattle.slot_codec.specs.Logs.{log_end}
use Rattle.slot_codec.specs.Rolls.{IsRoll}
use Rattle.slot_codec.specs.Spelling.{gate_at, gate_open, head_len, header_len, slot_at}
use Rattle.slot_codec.specs.declared.codec.Header.{Header}
use Rattle.slot_codec.specs.declared.codec.Record.{Record}
use Rattle.slot_codec.proofs.ChoiceLaws.{slot_low}
use Rattle.slot_codec.proofs.PickLaws.{in_use_parts_in}
use Rattle.slot_codec.proofs.ReadLogLaws.{log_end_place}
use Rattle.slot_codec.proofs.StepLaws.{bind_ok, from_ok}
use Rattle.slot_pair.specs.Appends.{head_for}
use Rattle.slot_pair.specs.Logged.{LeadsTo}
use Rattle.slot_pair.specs.Saves.{IsAlikeBelow, IsWhole}
use Rattle.logged_pair.specs.Pairs.{InLog, LoggedTable, behind_entries, first_of, in_log, log_of, logged_in, top_of}
use Rattle.logged_pair.specs.Saves.{CanSaveChanges, ChangesLeave, HasRecords}
use Rattle.logged_pair.proofs.AppendLaws.{IsShown, shown_gate}
use Rattle.logged_pair.proofs.AppendTables.{LogPlace, TableThere, old_table, table_there}
use Rattle.logged_pair.proofs.KeepLaws.{keeps-shorter}

-- ---- what is known as a save begins

-- the slot in use with its log, where an entry may be appended
pub record HasEnd (file : List ℕ) (u : InLog) : Type 0 where
  pub base : InUse
  pub entries : ℕ
  pub slot : slot_in true file ≡ Ok base
  pub low : nat_lt (first_of file base) (top_of base) ≡ true
  pub ends : log_end file (top_of base) (first_of file base) ≡ (entries, u.end)
  pub closed : is_open file u.end ≡ false
  pub same : u.in_use ≡ record base { sequence = base.sequence + entries }

pub has_end : (file : List ℕ) (u : InLog) → in_log file ≡ Ok u → 0 < u.end → HasEnd file u
has_end file u is some =
    let p = bind_ok (slot_in true file) (λ v. Ok (log_of file v)) u is in
    let base = p.0 in
    let log : log_of file base ≡ u = from_ok (log_of file base) u p.2 in
    let ends = log_end file (top_of base) (first_of file base) in
    elim (cases_Bool (nat_lt (first_of file base) (top_of base))) [
      | inl low ↦
          let is : behind_entries file base ends ≡ u =
          sym (cond-false (not (nat_lt (first_of file base) (top_of base))) _ _ (ap not low)) ∙ log in
          elim (cases_Bool (is_open file ends.1)) [
            | inl gate ↦
                let none : u.end ≡ 0 = sym (ap (λ (v : InLog). v.end) is) ∙ cond-true (is_open file ends.1) 0
                ends.1 gate in
                absurd (omega (arith, none, some))
            | inr gate ↦
                let end : ends.1 ≡ u.end = sym (cond-false (is_open file ends.1) 0 ends.1 gate)
                ∙ ap (λ (v : InLog). v.end) is in
                record {
                  base = base;
                  entries = ends.0;
                  slot = p.1;
                  low = low;
                  ends = λ i. (ends.0, end i);
                  closed = ap (is_open file) (sym end) ∙ gate;
                  same = sym (ap (λ (v : InLog). v.in_use) is);
                }
          ]
      | inr high ↦
          let none : u.end ≡ 0 = sym (ap (λ (v : InLog). v.end) log)
          ∙ ap (λ (v : InLog). v.end)
          (cond-true (not (nat_lt (first_of file base) (top_of base))) _ _ (ap not high)) in
          absurd (omega (arith, none, some))
    ]

-- a pair behind so many entries
abbrev pub behind : InUse → ℕ → ℕ → InLog
behind base entries end = record {
  in_use = record base { sequence = base.sequence + entries };
  end = end;
}

pub record Appends (base : InUse) (entries end : ℕ) (h : Header) (before now : List Record)
    (changes : List Change) (a : State) : Type 0 where
  pub told : IsTrue a.tells
  pub slot : slot_in true a.file ≡ Ok base
  pub low : nat_lt (first_of a.file base) (top_of base) ≡ true
  pub ends : log_end a.file (top_of base) (first_of a.file base) ≡ (entries, end)
  pub closed : is_open a.file end ≡ false
  pub within : end + entry_room (head_for h changes) < top_of base
  pub names : base.block.names ≤ 65536
  pub can : CanSaveChanges (behind base entries end) h before now changes
  pub whole : IsWhole h
  pub roll : IsRoll now
  pub leads : LeadsTo before now changes

-- ---- where all stands

pub record Stands (base : InUse) (end room : ℕ) (file : List ℕ) : Type 0 where
  pub one : base.slot ≤ 1
  pub long : head_len base.block.names ≤ length file
  pub some : slot_at base.block.names base.slot + header_len ≤ end
  pub first : first_of file base ≤ end
  pub high : end + (room + 1) ≤ gate_at base.block.names base.slot
  pub top : top_of base ≤ gate_at base.block.names base.slot
  pub gate : gate_at base.block.names base.slot < head_len base.block.names

pub stands : {base : InUse} {entries end : ℕ} {h : Header} {before now : List Record} {changes : List Change}
    {a : State} → Appends base entries end h before now changes a
    → Stands base end (entry_room (head_for h changes)) a.file
stands {base} {entries} {end} {h} {before} {now} {changes} {a} s =
    let p = in_use_parts_in true a.file base s.slot in
    let first = first_of a.file base in
    let low : first < top_of base = ltb-true first (top_of base) s.low in
    let place = log_end_place a.file (top_of base) first low (omega arith) in
    let behind : first ≤ end = omega (arith, place.behind, ap (λ q. q.1) s.ends) in
    record {
      one = p.slot;
      long = p.long;
      some = omega (arith, behind);
      first = behind;
      high = omega (arith, s.within);
      top = omega arith;
      gate = omega (arith, slot_low base.block.names base.slot p.slot);
    }

pub log_place : {base : InUse} {entries end : ℕ} {h : Header} {before now : List Record}
    {changes : List Change} {a : State} → Appends base entries end h before now changes a
    → LogPlace base end a.file
log_place s =
    let p = stands s in
    record { slot = p.one; long = p.long; behind = p.first; below = omega (arith, s.within) }

-- ---- the other slot is closed

-- its gate lies in front of the data part
pub gate_data : {base : InUse} {end room : ℕ} {file : List ℕ} (a b : List ℕ) → Stands base end room file
    → SameOutside (gate_at base.block.names (1 - base.slot)) 1 a b → SameFrom (head_len base.block.names) a b
gate_data {base} a b s same =
    let inside = slot_low base.block.names (1 - base.slot) (omega arith) in
    record { same_length = same.same_length; bytes = λ i low. same.above i (omega (arith, low, inside)) }

pub both_data : (base : ℕ) (a b c : List ℕ) → SameFrom base a b → SameFrom base b c → SameFrom base a c
both_data base a b c h k =
    record { same_length = h.same_length ∙ k.same_length; bytes = λ i low. h.bytes i low ∙ k.bytes i low }

-- An image of what was left before, with the other gate changed: it has the slot and its log.
pub record FirstImage (base : InUse) (end : ℕ) (a : State) (image : List ℕ) : Type 0 where
  pub before : List ℕ
  pub was : a.may_leave before
  pub same : SameOutside (gate_at base.block.names (1 - base.slot)) 1 before image
  pub shown : IsShown base (gate_at base.block.names base.slot) a.file image
  pub closed : is_open image end ≡ false

-- each image is like the content below the data part
abbrev pub AreAlike : ℕ → State → Type 0
AreAlike base a = (image : List ℕ) → a.may_leave image → IsAlikeBelow base a.file image

-- the content is like itself
alike_itself : {base : InUse} {end room : ℕ} {file : List ℕ} → Stands base end room file
    → IsAlikeBelow (head_len base.block.names) file file
alike_itself s = record { long = s.long; bytes = λ i low. refl }

module _ {base : InUse} {entries end : ℕ} {h : Header} {before now : List Record} {changes : List Change}
    {a : State} (s : Appends base entries end h before now changes a) where
  -- the gate at the end is closed in what has the slot
  pub still_closed : (image : List ℕ) → IsShown base (gate_at base.block.names base.slot) a.file image
      → is_open image end ≡ false
  still_closed image shown =
      let p = stands s in
      ap (λ x. x == gate_open) (sym (shown.keeps.slot end (omega (arith, p.some)) (omega (arith, p.high))))
      ∙ s.closed

  -- as far as the end
  pub up_to_end : (image : List ℕ) → IsShown base (gate_at base.block.names base.slot) a.file image
      → IsShown base end a.file image
  up_to_end image shown =
      let p = stands s in
      record {
        keeps = keeps-shorter base (gate_at base.block.names base.slot) end a.file image
            (omega (arith, p.high)) shown.keeps;
        newer = shown.newer;
      }

  first_image : AreAlike (head_len base.block.names) a → (image old : List ℕ) → a.may_leave old
      → (base.other_open ≡ true) ⊎ (old ≡ image)
      → SameOutside (gate_at base.block.names (1 - base.slot)) 1 old image → FirstImage base end a image
  first_image alike image old was either same =
      let shown = shown_gate base a.file old image s.slot (alike old was) either same in
      record { before = old; was = was; same = same; shown = shown; closed = still_closed image shown }

  -- the table there
  pub there : (t : LoggedTable) → HasRecords t before a.file → TableThere base entries end a.file t
  there t has = table_there base entries end a.file t s.slot s.low s.ends has.read

  -- the table of what has the slot up to the end, with a closed gate
  pub kept : (t : LoggedTable) → HasRecords t before a.file → (image : List ℕ) → IsShown base end a.file image
      → is_open image end ≡ false → logged_in image ≡ Ok t
  kept t has image shown closed =
      old_table base entries end a.file image t (there t has) (log_place s) s.slot shown closed

-- the other slot is closed, if it was open
pub record IsClosed (base : InUse) (entries end : ℕ) (h : Header) (before now : List Record)
    (changes : List Change) (a b : State) : Type 0 where
  pub begins : Appends base entries end h before now changes a
  pub wrote : WritesWithin (gate_at base.block.names (1 - base.slot)) 1 a b
  pub still : base.other_open ≡ false → Unchanged a b

module _ {base : InUse} {entries end : ℕ} {h : Header} {before now : List Record} {changes : List Change}
    {a b : State} (k : IsClosed base entries end h before now changes a b) where
  s : Appends base entries end h before now changes a
  s = k.begins

  others : SameOutside (gate_at base.block.names (1 - base.slot)) 1 a.file b.file
  others = k.wrote.others s.told

  pub closed_told : IsTrue b.tells
  closed_told = subst IsTrue (sym k.wrote.stays.told) s.told

  -- the content has the slot and its log
  pub content_shown : IsShown base (gate_at base.block.names base.slot) a.file b.file
  content_shown = shown_gate base a.file a.file b.file s.slot (alike_itself (stands s)) either others
    where
      either : (base.other_open ≡ true) ⊎ (a.file ≡ b.file)
      either = elim (cases_Bool base.other_open) [
        | inl opened ↦ inl opened
        | inr closed ↦ inr (sym ((k.still closed).same_file s.told))
      ]

  -- and so has each image
  pub image_shown : AreAlike (head_len base.block.names) a → (image : List ℕ) → b.may_leave image
      → FirstImage base end a image
  image_shown alike image is =
      elim (cases_Bool base.other_open) [
        | inl opened ↦
            let was = k.wrote.images image is in
            first_image s alike image was.0 was.1 (inl opened) was.2
        | inr closed ↦
            first_image s alike image image ((k.still closed).images image is) (inr refl)
            (SameOutside-refl (gate_at base.block.names (1 - base.slot)) 1 image)
      ]

  since_shown : AreAlike (head_len base.block.names) a → Leaves a b (FirstImage base end a)
  since_shown alike =
      elim (cases_Bool base.other_open) [
        | inl opened ↦
            Leaves-weaken _ (λ image was. first_image s alike image was.0 was.1 (inl opened) was.2)
            k.wrote.since
        | inr closed ↦
            Leaves-weaken _ (λ image was. first_image s alike image image was (inr refl)
            (SameOutside-refl (gate_at base.block.names (1 - base.slot)) 1 image)) (k.still closed).since
      ]

  -- what is left once it is closed, or while it is
  pub left_closing : (v : InLog) → ChangesLeave (behind base entries end) v h before now a b
  left_closing v = record {
    data_part = gate_data a.file b.file (stands s) others;
    old_or_new = λ t has fresh. inl (kept s t has b.file (up_to_end s b.file content_shown)
        (still_closed s b.file content_shown));
    images = λ t has fresh alike. Leaves-weaken _ (λ image f. inl (record {
      table = kept s t has image (up_to_end s image f.shown) f.closed;
      before = f.before;
      was = inl f.was;
      data_part = gate_data f.before image (stands s) f.same;
    })) (since_shown alike);
  }
