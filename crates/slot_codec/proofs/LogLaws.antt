-- Logs end at a closed gate, and files that are alike up to there have one log.
use Rattle.std.proofs.Common.{inl, inr, ◌≡◌, ℕ, zero, suc, ◌+◌, ◌*◌, ◌%◌, ◌<◌, ◌≤◌, true, false, ◌&&◌, List, length, refl, sym, ap, ◌∙◌, subst, arith}
use Rattle.std.proofs.lemmas.Bool.{and_from, and_parts, lt-ltb, ltb-true, cases_Bool, cond-true, cond-false}
use Rattle.std.specs.Prelude.{◌==◌, if◌then◌else◌, nat_lt}
use Rattle.std.specs.Int.{w64, from_le_bytes}
use Rattle.byte_ranges.specs.Ranges.{SameWithin}
use Rattle.byte_ranges.proofs.RangeLaws.{bytes_at-same}
use Rattle.slot_codec.specs.Choice.{is_open}
use Rattle.slot_codec.specs.Reading.{number_at}
use Rattle.slot_codec.specs.Spelling.{gate_open}
use Rattle.slot_codec.specs.Entries.{up}
use Rattle.slot_codec.specs.Logs.{IsLocal, goes_on, len_at, room_at, walk}

-- a closed gate ends it
pub walk_closed : {T : Type 0} (step : List ℕ → ℕ → T → T) (n : ℕ) (file : List ℕ) (top at : ℕ) (x : T)
    → is_open file at ≡ false → walk step n file top at x ≡ (x, at)
walk_closed step zero file top at x h = refl
walk_closed step (suc n) file top at x h =
    cond-false (goes_on file top at) (walk step n file top (at + room_at file at) (step file at x)) (x, at)
    (ap (λ b. b && nat_lt (at + room_at file at) top) h)

-- it ends no earlier than it begins
pub walk_grows : {T : Type 0} (step : List ℕ → ℕ → T → T) (n : ℕ) (file : List ℕ) (top at : ℕ) (x : T)
    → at ≤ (walk step n file top at x).1
walk_grows step zero file top at x = omega arith
walk_grows step (suc n) file top at x =
    let len = room_at file at in
    let more = walk step n file top (at + len) (step file at x) in
    elim (cases_Bool (goes_on file top at)) [
      | inl on ↦
          let later = walk_grows step n file top (at + len) (step file at x) in
          let is : (walk step (suc n) file top at x).1 ≡ more.1 =
          ap (λ p. p.1) (cond-true (goes_on file top at) more (x, at) on) in
          omega (arith, later, is)
      | inr off ↦
          let is : (walk step (suc n) file top at x).1 ≡ at =
          ap (λ p. p.1) (cond-false (goes_on file top at) more (x, at) off) in
          omega (arith, is)
    ]

-- a number of the head is the same
same_number : (a b : List ℕ) (at end k : ℕ) → at + 56 ≤ end → end ≤ length a → end ≤ length b → k + 8 ≤ 56
    → SameWithin at end a b → number_at b (at + k) ≡ number_at a (at + k)
same_number a b at end k head in_a in_b low same =
    ap (from_le_bytes w64) (sym (bytes_at-same a b (at + k) 8 (omega (arith, low, head, in_a))
    (omega (arith, low, head, in_b)) (λ i l h. same i (omega (arith, l)) (omega (arith, h, low, head)))))

-- and so is the length of the entry
same_len : (a b : List ℕ) (at end : ℕ) → at + 56 ≤ end → end ≤ length a → end ≤ length b
    → SameWithin at end a b → len_at b at ≡ len_at a at
same_len a b at end head in_a in_b same =
    let c = same_number a b at end 8 head in_a in_b (omega arith) same in
    let m = same_number a b at end 16 head in_a in_b (omega arith) same in
    let g = same_number a b at end 24 head in_a in_b (omega arith) same in
    let p = same_number a b at end 32 head in_a in_b (omega arith) same in
    omega (arith, c, m, g, p)

-- and with the gap behind it
pub same_room : (a b : List ℕ) (at end : ℕ) → at + 56 ≤ end → end ≤ length a → end ≤ length b
    → SameWithin at end a b → room_at b at ≡ room_at a at
same_room a b at end head in_a in_b same = ap up (same_len a b at end head in_a in_b same)

-- what is known of an entry that goes on
pub record GoesOn (file : List ℕ) (top at : ℕ) : Type 0 where
  pub gate : is_open file at ≡ true
  pub whole : at + room_at file at < top

pub goes_on_parts : (file : List ℕ) (top at : ℕ) → goes_on file top at ≡ true → GoesOn file top at
goes_on_parts file top at h =
    let parts = and_parts (is_open file at) (nat_lt (at + room_at file at) top) h in
    record { gate = parts.0; whole = ltb-true (at + room_at file at) top parts.1 }

pub goes_on_from : (file : List ℕ) (top at : ℕ) → GoesOn file top at → goes_on file top at ≡ true
goes_on_from file top at p =
    and_from (is_open file at) (nat_lt (at + room_at file at) top) p.gate
    (lt-ltb (at + room_at file at) top p.whole)

-- In a file that is alike up to the end of a log, the log of that file goes through the same entries, with
-- fuel left.
record GoesThrough {T : Type 0} (step : List ℕ → ℕ → T → T) (k m : ℕ) (b : List ℕ) (top at end : ℕ)
    (x y : T) : Type 0 where
  fuel : ℕ
  left : m ≤ fuel
  same : walk step k b top at x ≡ walk step fuel b top end y

walk_then : {T : Type 0} (step : List ℕ → ℕ → T → T) (n m k : ℕ) (a b : List ℕ) (top at : ℕ) (x : T)
    → n + m ≤ k → IsLocal step → top ≤ length a → top ≤ length b
    → SameWithin at (walk step n a top at x).1 a b
    → GoesThrough step k m b top at (walk step n a top at x).1 x (walk step n a top at x).0
walk_then step zero m k a b top at x enough local in_a in_b same =
    record { fuel = k; left = omega (arith, enough); same = refl }
walk_then step (suc n) m zero a b top at x enough local in_a in_b same = absurd (omega (arith, enough))
walk_then step (suc n) m (suc k) a b top at x enough local in_a in_b same =
    let len = room_at a at in
    let next = step a at x in
    let more = walk step n a top (at + len) next in
    elim (cases_Bool (goes_on a top at)) [
      | inl on ↦
          let is : walk step (suc n) a top at x ≡ more = cond-true (goes_on a top at) more (x, at) on in
          let same_on : SameWithin at more.1 a b = subst (λ p. SameWithin at p.1 a b) is same in
          let g = goes_on_parts a top at on in
          let grows = walk_grows step n a top (at + len) next in
          let long : 56 ≤ len = omega arith in
          let here : SameWithin at (at + len) a b = λ i l h. same_on i l (omega (arith, h, grows)) in
          let behind : SameWithin (at + len) more.1 a b = λ i l h. same_on i (omega (arith, l)) h in
          let lens : room_at b at ≡ len = same_room a b at (at + len) (omega (arith, long))
          (omega (arith, g.whole, in_a)) (omega (arith, g.whole, in_b)) here in
          let gate : is_open b at ≡ true =
          ap (λ v. v == gate_open) (sym (here at (omega arith) (omega (arith, long)))) ∙ g.gate in
          let on_b : goes_on b top at ≡ true = goes_on_from b top at
          record { gate = gate; whole = omega (arith, lens, g.whole) } in
          let made : step b at x ≡ next = sym (local a b at x (omega (arith, g.whole, in_a))
          (omega (arith, g.whole, in_b)) here) in
          let fuel : n + m ≤ k = omega (arith, enough) in
          let t = walk_then step n m k a b top (at + len) next fuel local in_a in_b behind in
          let first : walk step (suc k) b top at x ≡ walk step k b top (at + room_at b at) (step b at x)
          = cond-true (goes_on b top at) (walk step k b top (at + room_at b at) (step b at x)) (x, at) on_b in
          let moved : walk step k b top (at + room_at b at) (step b at x)
          ≡ walk step k b top (at + len) next =
          ap (λ v. walk step k b top (at + v) (step b at x)) lens
          ∙ ap (walk step k b top (at + len)) made in
          let through : GoesThrough step (suc k) m b top at more.1 x more.0 =
          record { fuel = t.fuel; left = t.left; same = first ∙ moved ∙ t.same } in
          subst (λ p. GoesThrough step (suc k) m b top at p.1 x p.0) (sym is) through
      | inr off ↦
          let is : walk step (suc n) a top at x ≡ (x, at) =
          cond-false (goes_on a top at) more (x, at) off in
          let through : GoesThrough step (suc k) m b top at at x x =
          record { fuel = suc k; left = omega (arith, enough); same = refl } in
          subst (λ p. GoesThrough step (suc k) m b top at p.1 x p.0) (sym is) through
    ]

-- alike before the gate at which a log ends, a file in which it is closed has that log
pub walk_before : {T : Type 0} (step : List ℕ → ℕ → T → T) (n : ℕ) (a b : List ℕ) (top at : ℕ) (x : T)
    → IsLocal step → top ≤ length a → top ≤ length b
    → is_open b (walk step n a top at x).1 ≡ false
    → SameWithin at (walk step n a top at x).1 a b
    → walk step n b top at x ≡ walk step n a top at x
walk_before step n a b top at x local in_a in_b closed same =
    let p = walk step n a top at x in
    let t = walk_then step n 0 n a b top at x (omega arith) local in_a in_b same in
    t.same ∙ walk_closed step t.fuel b top p.1 p.0 closed

-- and so has a file that is alike up to this gate, and at it
pub walk_same : {T : Type 0} (step : List ℕ → ℕ → T → T) (n : ℕ) (a b : List ℕ) (top at : ℕ) (x : T)
    → IsLocal step → top ≤ length a → top ≤ length b
    → is_open a (walk step n a top at x).1 ≡ false
    → SameWithin at ((walk step n a top at x).1 + 1) a b
    → walk step n b top at x ≡ walk step n a top at x
walk_same step n a b top at x local in_a in_b closed same =
    let end = (walk step n a top at x).1 in
    let grows = walk_grows step n a top at x in
    let gate : is_open b end ≡ false =
    ap (λ v. v == gate_open) (sym (same end (omega (arith, grows)) (omega arith))) ∙ closed in
    walk_before step n a b top at x local in_a in_b gate (λ i l h. same i l (omega (arith, h)))

-- from its end on: the log as it was, or one entry more
at_end : {T : Type 0} (step : List ℕ → ℕ → T → T) (fuel : ℕ) (b : List ℕ) (top end : ℕ) (y : T)
    → 1 ≤ fuel → end + room_at b end < top → is_open b (end + room_at b end) ≡ false
    → walk step fuel b top end y
    ≡ (if is_open b end then (step b end y, end + room_at b end) else (y, end))
at_end step zero b top end y some whole closed = absurd (omega (arith, some))
at_end step (suc n) b top end y some whole closed =
    elim (cases_Bool (is_open b end)) [
      | inl on ↦
          let goes : goes_on b top end ≡ true = goes_on_from b top end record { gate = on; whole = whole } in
          cond-true (goes_on b top end) (walk step n b top (end + room_at b end) (step b end y)) (y, end) goes
          ∙ walk_closed step n b top (end + room_at b end) (step b end y) closed
          ∙ sym (cond-true (is_open b end) (step b end y, end + room_at b end) (y, end) on)
      | inr off ↦
          walk_closed step (suc n) b top end y off
          ∙ sym (cond-false (is_open b end) (step b end y, end + room_at b end) (y, end) off)
    ]

-- an entry behind the end of a log is there where its gate is open
pub entry_there : {T : Type 0} (step : List ℕ → ℕ → T → T) (n : ℕ) (a b : List ℕ) (top at end : ℕ) (x y : T)
    → IsLocal step → top ≤ length a → top ≤ length b → walk step n a top at x ≡ (y, end)
    → is_open a end ≡ false → SameWithin at end a b → end + room_at b end < top
    → is_open b (end + room_at b end) ≡ false
    → walk step (n + 1) b top at x
    ≡ (if is_open b end then (step b end y, end + room_at b end) else (y, end))
entry_there step n a b top at end x y local in_a in_b was closed same whole next =
    let same_was : SameWithin at (walk step n a top at x).1 a b =
    subst (λ p. SameWithin at p.1 a b) (sym was) same in
    let t = walk_then step n 1 (n + 1) a b top at x (omega arith) local in_a in_b same_was in
    let through : GoesThrough step (n + 1) 1 b top at end x y =
    subst (λ p. GoesThrough step (n + 1) 1 b top at p.1 x p.0) was t in
    through.same ∙ at_end step through.fuel b top end y through.left whole next

-- ---- enough fuel

stops : (file : List ℕ) (top at : ℕ) → top ≤ at + 512 → goes_on file top at ≡ false
stops file top at low =
    elim (cases_Bool (goes_on file top at)) [
      | inl on ↦
          let g = goes_on_parts file top at on in
          let long : 512 ≤ room_at file at = omega arith in
          absurd (omega (arith, g.whole, long, low))
      | inr off ↦ off
    ]

-- with fuel for as many entries as there is room for, it ends where none goes on
pub walk_ends : {T : Type 0} (step : List ℕ → ℕ → T → T) (n : ℕ) (file : List ℕ) (top at : ℕ) (x : T)
    → top ≤ at + 512 * (n + 1) → goes_on file top (walk step n file top at x).1 ≡ false
walk_ends step zero file top at x enough = stops file top at (omega (arith, enough))
walk_ends step (suc n) file top at x enough =
    let len = room_at file at in
    let more = walk step n file top (at + len) (step file at x) in
    elim (cases_Bool (goes_on file top at)) [
      | inl on ↦
          let long : 512 ≤ len = omega arith in
          let is : (walk step (suc n) file top at x).1 ≡ more.1 =
          ap (λ p. p.1) (cond-true (goes_on file top at) more (x, at) on) in
          ap (goes_on file top) is
          ∙ walk_ends step n file top (at + len) (step file at x) (omega (arith, enough, long))
      | inr off ↦
          let is : (walk step (suc n) file top at x).1 ≡ at =
          ap (λ p. p.1) (cond-false (goes_on file top at) more (x, at) off) in
          ap (goes_on file top) is ∙ off
    ]

-- and more fuel changes nothing
pub walk_more : {T : Type 0} (step : List ℕ → ℕ → T → T) (n : ℕ) (file : List ℕ) (top at : ℕ) (x : T)
    → top ≤ at + 512 * (n + 1) → walk step (suc n) file top at x ≡ walk step n file top at x
walk_more step zero file top at x enough =
    cond-false (goes_on file top at) (step file at x, at + room_at file at) (x, at)
    (stops file top at (omega (arith, enough)))
walk_more step (suc n) file top at x enough =
    let len = room_at file at in
    let long : 512 ≤ len = omega arith in
    let later = walk_more step n file top (at + len) (step file at x) (omega (arith, enough, long)) in
    ap (λ (p : _ × ℕ). if goes_on file top at then p else (x, at)) later

-- ---- two steps

-- steps go through the same entries
pub walk_beside : {T U : Type 0} (step : List ℕ → ℕ → T → T) (other : List ℕ → ℕ → U → U) (n : ℕ)
    (file : List ℕ) (top at : ℕ) (x : T) (u : U)
    → (walk step n file top at x).1 ≡ (walk other n file top at u).1
walk_beside step other zero file top at x u = refl
walk_beside step other (suc n) file top at x u =
    let len = room_at file at in
    let a = walk step n file top (at + len) (step file at x) in
    let b = walk other n file top (at + len) (other file at u) in
    elim (cases_Bool (goes_on file top at)) [
      | inl on ↦
          ap (λ p. p.1) (cond-true (goes_on file top at) a (x, at) on)
          ∙ walk_beside step other n file top (at + len) (step file at x) (other file at u)
          ∙ sym (ap (λ p. p.1) (cond-true (goes_on file top at) b (u, at) on))
      | inr off ↦
          ap (λ p. p.1) (cond-false (goes_on file top at) a (x, at) off)
          ∙ sym (ap (λ p. p.1) (cond-false (goes_on file top at) b (u, at) off))
    ]

-- and keep what each of them keeps
pub walk_relates : {T U : Type 0} (R : T → U → Type 0) (step : List ℕ → ℕ → T → T)
    (other : List ℕ → ℕ → U → U)
    → ((file : List ℕ) (at : ℕ) (x : T) (u : U) → R x u → R (step file at x) (other file at u))
    → (n : ℕ) (file : List ℕ) (top at : ℕ) (x : T) (u : U) → R x u
    → R (walk step n file top at x).0 (walk other n file top at u).0
walk_relates R step other each zero file top at x u r = r
walk_relates R step other each (suc n) file top at x u r =
    let len = room_at file at in
    let a = walk step n file top (at + len) (step file at x) in
    let b = walk other n file top (at + len) (other file at u) in
    elim (cases_Bool (goes_on file top at)) [
      | inl on ↦
          let later : R a.0 b.0 = walk_relates R step other each n file top (at + len) (step file at x)
          (other file at u) (each file at x u r) in
          subst (λ p. R p.0 (walk other (suc n) file top at u).0)
          (sym (cond-true (goes_on file top at) a (x, at) on))
          (subst (λ q. R a.0 q.0) (sym (cond-true (goes_on file top at) b (u, at) on)) later)
      | inr off ↦
          subst (λ p. R p.0 (walk other (suc n) file top at u).0)
          (sym (cond-false (goes_on file top at) a (x, at) off))
          (subst (λ q. R x q.0) (sym (cond-false (goes_on file top at) b (u, at) off)) r)
    ]

-- ---- where it stands

-- a place of a log: behind the first gate, below the top, and at a multiple of 512
pub record IsPlace (top at end : ℕ) : Type 0 where
  pub behind : at ≤ end
  pub below : end < top
  pub multiple : end % 512 ≡ 0

-- a log that begins at such a place ends at one
pub walk_place : {T : Type 0} (step : List ℕ → ℕ → T → T) (n : ℕ) (file : List ℕ) (top at : ℕ) (x : T)
    → at < top → at % 512 ≡ 0 → IsPlace top at (walk step n file top at x).1
walk_place step zero file top at x below multiple =
    record { behind = omega arith; below = below; multiple = multiple }
walk_place step (suc n) file top at x below multiple =
    let len = room_at file at in
    let more = walk step n file top (at + len) (step file at x) in
    elim (cases_Bool (goes_on file top at)) [
      | inl on ↦
          let g = goes_on_parts file top at on in
          let later = walk_place step n file top (at + len) (step file at x) g.whole
          (omega (arith, multiple)) in
          let place : IsPlace top at more.1 = record {
            behind = omega (arith, later.behind);
            below = later.below;
            multiple = later.multiple;
          } in
          subst (λ p. IsPlace top at p.1) (sym (cond-true (goes_on file top at) more (x, at) on)) place
      | inr off ↦
          let place : IsPlace top at at =
          record { behind = omega arith; below = below; multiple = multiple } in
          subst (λ p. IsPlace top at p.1) (sym (cond-false (goes_on file top at) more (x, at) off)) place
    ]
