use Rattle.std.proofs.Common.{◌≡◌, ◌<◌, ◌≤◌, ℕ, List, Bool, true, false, not, IsTrue, Ok, Err, Result, length, is_some, inl, inr, refl, ap, sym, arith, rules, ◌∙◌}
use Rattle.std.specs.Prelude.{◌&&◌, ◌^◌, nat_le, nat_lt, if◌then◌else◌}
use Rattle.std.proofs.lemmas.Bool.{cases_lt, le-leb, le-ltb, lt-leb}
use Rattle.std.proofs.lemmas.Grind.{common_steps}
use Rattle.std.specs.FinMap as fin
use Rattle.size_class.specs.declared.TheConstants.{SIZE_MAX}
use Rattle.slot_codec.specs.Names.{is_name}
use Rattle.map_model.specs.Requests as ask
use Rattle.store_model.specs.declared.answers.Refusal.{Refusal}
use Rattle.store_model.specs.declared.answers.Refusal.TheVariants as why
use Rattle.store_model.specs.Answers.{refused_by}
use Rattle.extent_table.specs.Extents.{Spots}
use Rattle.store_model.specs.Connection.{StoreValue, live_cap}
use Rattle.store_model.specs.Plans.{AcceptsName}
use Rattle.store_model.specs.Quiet.{put_of}
use Rattle.store_model.proofs.InsideLaws.{opened}
use Rattle.store_core.proofs.LentLaws.{lent, lent_rest}
use Rattle.store_core.proofs.store.Store.accepts_put.Goals as goal
use Rattle.store_core.proofs.store.Store.accepts_put.Goals.{else-is_none-via-then-is_none+else-not-room, else-is_none-via-else-is_none}
use Rattle.store_model.proofs.PlanLaws.{answered}

pub returns-in_err-name : goal.returns-in_err-name
returns-in_err-name g c = grind (arith, common_steps)

pub returns-then-bytes-gt-SIZE_MAX : goal.returns-then-bytes-gt-SIZE_MAX
returns-then-bytes-gt-SIZE_MAX g c = grind (arith, common_steps)

with_false : (b : Bool) → (b && false) ≡ false
with_false true = refl
with_false false = refl

-- a put whose name and size are fine, and for which there is room, is refused only once the sequence is worn
accepts : (s : StoreValue) (name object : List ℕ) (result : Result (List ℕ) Refusal) → s.is_broken ≡ false
    → is_name name ≡ true → length object ≤ SIZE_MAX
    → (not (fin.contains_key s.now name) && nat_le (live_cap s) (fin.len s.now)) ≡ false
    → (2 ^ 61 ≤ s.in_use.sequence → result ≡ Err why.Worn) → (s.in_use.sequence < 2 ^ 61 → result ≡ Ok name)
    → AcceptsName (refused_by s (ask.change (put_of name object))) name result
accepts s name object result whole named small room worn fresh =
    let fits : nat_lt SIZE_MAX (length object) ≡ false = le-ltb SIZE_MAX (length object) small in
    elim (cases_lt s.in_use.sequence (2 ^ 61)) as
    (λ _. AcceptsName (refused_by s (ask.change (put_of name object))) name result) [
      | inl early ↦ rw (whole, named, fits, room, lt-leb (2 ^ 61) s.in_use.sequence early) (fresh early)
      | inr late ↦ rw (whole, named, fits, room, le-leb (2 ^ 61) s.in_use.sequence late) (worn late)
    ]

pub returns-clause-answer : goal.returns-clause-answer
returns-clause-answer g c =
    let rest = lent_rest c.self.inside c.args.self.now _ c.self.view_is
    c.self.invariant c.requires.idle c.deref-hands.ensures in
    let t = c.args.self.now in
    let name = c.args.name.now in
    let said = answered t.is_broken (is_name name) c.in_ok-name.name name c.in_ok-name.ensures.answer in
    let o = opened (lent c.self.inside c.deref-hands.result.now c.self.inside.kept_layout.value) t rest.view
    rest.whole said.0 in
    let live : is_some c.get.result ≡ fin.contains_key t.now name =
    ap is_some c.get.ensures
    ∙ (λ i. fin.contains_key ((ap (λ (x : StoreValue). x.now) rest.view) i) (said.2 i)) in
    let room : (not (fin.contains_key t.now name) && nat_le (live_cap t) (fin.len t.now)) ≡ false =
    elim c.else-is_none.branch [
      | else-is_none-via-then-is_none+else-not-room w ↦
          let has : IsTrue w.room.result = search rules in
          let low : fin.len t.now < live_cap t = omega (
            arith,
            w.room.ensures.0 has,
            o.cap,
            ap (λ (m : Spots). fin.len m) o.now,
          ) in
          ap (λ b. not (fin.contains_key t.now name) && b) (lt-leb (live_cap t) (fin.len t.now) low)
          ∙ with_false (not (fin.contains_key t.now name))
      | else-is_none-via-else-is_none w ↦
          let there : is_some c.get.result ≡ true = search rules in
          ap (λ b. not b && nat_le (live_cap t) (fin.len t.now)) (sym live ∙ there)
    ] in
    accepts t name c.args.bytes.now c.unworn.result said.0 said.1
    (omega (arith, c.if-bytes-gt-SIZE_MAX.false))
    room c.unworn.ensures.worn (λ early. c.unworn.ensures.fresh early ∙ ap (λ x. Ok x) said.2)

-- a put of a new name is refused where as many live as there may be
refuses : (s : StoreValue) (name object : List ℕ) → s.is_broken ≡ false → is_name name ≡ true
    → length object ≤ SIZE_MAX → fin.contains_key s.now name ≡ false → live_cap s ≤ fin.len s.now
    → AcceptsName (refused_by s (ask.change (put_of name object))) name (Err why.Full)
refuses s name object whole named small new full =
    let fits : nat_lt SIZE_MAX (length object) ≡ false = le-ltb SIZE_MAX (length object) small in
    rw (whole, named, fits, new, le-leb (live_cap s) (fin.len s.now) full) refl

pub returns-then-not-room-clause-answer : goal.returns-then-not-room-clause-answer
returns-then-not-room-clause-answer g c =
    let rest = lent_rest c.self.inside c.args.self.now _ c.self.view_is
    c.self.invariant c.requires.idle c.deref-hands.ensures in
    let t = c.args.self.now in
    let name = c.args.name.now in
    let said = answered t.is_broken (is_name name) c.in_ok-name.name name c.in_ok-name.ensures.answer in
    let o = opened (lent c.self.inside c.deref-hands.result.now c.self.inside.kept_layout.value) t rest.view
    rest.whole said.0 in
    let live : is_some c.get.result ≡ fin.contains_key t.now name =
    ap is_some c.get.ensures
    ∙ (λ i. fin.contains_key ((ap (λ (x : StoreValue). x.now) rest.view) i) (said.2 i)) in
    let none : is_some c.get.result ≡ false = search rules in
    let full : c.room.result ≡ false = search rules in
    let many : live_cap t ≤ fin.len t.now = elim (cases_lt (fin.len t.now) (live_cap t)) [
      | inl low ↦
          let has : IsTrue c.room.result = c.room.ensures.1
          (omega (arith, low, o.cap, ap (λ (m : Spots). fin.len m) o.now)) in
          absurd (let e : false ≡ true = sym full ∙ has in cc)
      | inr many ↦ many
    ] in
    refuses t name c.args.bytes.now said.0 said.1 (omega (arith, c.if-bytes-gt-SIZE_MAX.false))
    (sym live ∙ none) many
