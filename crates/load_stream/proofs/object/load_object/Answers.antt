use Rattle.std.proofs.Common.{◌≡◌, ◌+◌, ◌∙◌, ◌++◌, ◌∷◌, [], Ok, true, IsTrue, List, ℕ, length, Option, arith, rules, ap, subst, sym, refl}
use Rattle.std.specs.FinMap as fin
use Rattle.byte_ranges.specs.Ranges.{overwritten}
use Rattle.disk_face.specs.Frames.{Asks}
use Rattle.size_class.specs.Rows.{cells_of}
use Rattle.segment_layout.specs.Books.{volumes_of_sizes}
use Rattle.segment_layout.specs.Layouts.{caps_of, divisor_of}
use Rattle.data_area.specs.Pieces.{HasMade}
use Rattle.extent_table.specs.declared.spot.Spot.{Spot}
use Rattle.ask_text.specs.Asks.{line_of}
use Rattle.ask_text.specs.declared.ask.Ask.TheVariants as line
use Rattle.placement_model.proofs.OrderLaws.{behind_all}
use Rattle.dump_stream.specs.Placing.{spot_at}
use Rattle.load_stream.specs.Steps.{StandsNext}
use Rattle.load_stream.specs.Weights.{write_weight}
use Rattle.load_stream.proofs.ObjectLaws.{none_fits, none_whole, whole_text}
use Rattle.load_stream.proofs.SpotLaws.{ends_in, written_in}
use Rattle.load_stream.proofs.WeightLaws.{asks_none, asks_one}
use Rattle.load_stream.proofs.object.load_object.Goals as goal

pub returns-in_default-found-clause-none : goal.returns-in_default-found-clause-none
returns-in_default-found-clause-none g c told is =
    let s = c.args.so_far.now in
    let caps = caps_of c.args.plan.now.layout in
    none_fits s.last caps (cells_of s.filled) (c.args.ahead.now ++ (g.I.Source.state c.args.input.now).left)
    (c.next_put.new.ahead ++ (g.I.Source.state c.next_put.new.input).left) c.in-Some.name c.in-Some.size
    (search rules) (search rules) (search rules)
    (λ stands. c.in_default-found.ensures.none refl
    (subst (λ (o : Option (List ℕ)). StandsNext o caps (cells_of s.filled) c.in-Some.name c.in-Some.size)
    (sym c.as_ref.ensures.value) stands))

pub write_text-requires-clause-within : goal.write_text-requires-clause-within
write_text-requires-clause-within g c = λ told.
    let layout = c.args.plan.now.layout in
    omega (
      arith,
      ends_in (divisor_of layout) c.args.plan.now.base (caps_of layout) (cells_of c.args.so_far.now.filled)
          c.in-Some.size c.in-Some-found.spot layout.caps.shape.full c.in-Some-found.ensures.stands.room
          c.in-Some-found.ensures.spot,
      c.requires.plan.long told,
    )

pub returns-in_err-whole-clause-writes : goal.returns-in_err-whole-clause-writes
returns-in_err-whole-clause-writes g c =
    let layout = c.args.plan.now.layout in
    written_in (divisor_of layout) c.args.plan.now.base (caps_of layout) (cells_of c.args.so_far.now.filled)
    c.in-Some.size c.in-Some-found.spot layout.caps.shape.full c.in-Some-found.ensures.stands.room
    c.in-Some-found.ensures.spot c.write_text.ensures.writes

pub returns-then-not-whole-clause-writes : goal.returns-then-not-whole-clause-writes
returns-then-not-whole-clause-writes g c =
    let layout = c.args.plan.now.layout in
    written_in (divisor_of layout) c.args.plan.now.base (caps_of layout) (cells_of c.args.so_far.now.filled)
    c.in-Some.size c.in-Some-found.spot layout.caps.shape.full c.in-Some-found.ensures.stands.room
    c.in-Some-found.ensures.spot c.write_text.ensures.writes

pub returns-clause-writes : goal.returns-clause-writes
returns-clause-writes g c =
    let layout = c.args.plan.now.layout in
    written_in (divisor_of layout) c.args.plan.now.base (caps_of layout) (cells_of c.args.so_far.now.filled)
    c.in-Some.size c.in-Some-found.spot layout.caps.shape.full c.in-Some-found.ensures.stands.room
    c.in-Some-found.ensures.spot c.write_text.ensures.writes

pub returns-then-not-whole-clause-none : goal.returns-then-not-whole-clause-none
returns-then-not-whole-clause-none g c told is =
    let s = c.args.so_far.now in
    let here : IsTrue (g.I.Source.state c.next_put.new.input).tells =
    subst IsTrue (sym c.next_put.ensures.told) told in
    none_whole s.last (caps_of c.args.plan.now.layout) (cells_of s.filled)
    (c.args.ahead.now ++ (g.I.Source.state c.args.input.now).left)
    (c.next_put.new.ahead ++ (g.I.Source.state c.next_put.new.input).left) c.in-Some.name c.in-Some.size
    (search rules) (search rules) (search rules) (c.in_ok-whole.ensures.none here (search rules))

pub enter-requires-clause-behind : goal.enter-requires-clause-behind
enter-requires-clause-behind g c =
    let s = c.args.so_far.now in
    behind_all s.last s.load.now c.in-Some.name c.requires.so_far.upto
    (subst (λ (o : Option (List ℕ)). StandsNext o (caps_of c.args.plan.now.layout) (cells_of s.filled)
    c.in-Some.name c.in-Some.size) c.as_ref.ensures.value c.in-Some-found.ensures.stands).rises

pub returns-clause-object : goal.returns-clause-object
returns-clause-object g c is =
    let s = c.args.so_far.now in
    let p = c.args.plan.now in
    let k = divisor_of p.layout in
    let caps = caps_of p.layout in
    let filled = cells_of s.filled in
    let name = c.in-Some.name in
    let size = c.in-Some.size in
    let spot = c.in-Some-found.spot in
    let file = (g.D.Disk.state c.args.disk.now).file in
    let before = c.args.ahead.now ++ (g.I.Source.state c.args.input.now).left in
    let mid = c.next_put.new.ahead ++ (g.I.Source.state c.next_put.new.input).left in
    let after = c.write_text.new.ahead ++ (g.I.Source.state c.write_text.new.input).left in
    let whole : Ok c.in_ok-whole.whole ≡ Ok true = search rules in
    let w = c.in_ok-whole.ensures.object whole in
    let spot_is : spot ≡ spot_at k caps filled (length w.object) =
    c.in-Some-found.ensures.spot ∙ ap (spot_at k caps filled) (sym w.long) in
    let size_is : spot.size ≡ length w.object = ap (λ (x : Spot). x.size) spot_is in
    record {
      object = (name, w.object);
      stands = subst (λ (n : ℕ). StandsNext s.last caps filled name n) (sym w.long)
          (subst (λ (o : Option (List ℕ)). StandsNext o caps filled name size) c.as_ref.ensures.value
          c.in-Some-found.ensures.stands);
      whole = λ told.
          let here : IsTrue (g.I.Source.state c.next_put.new.input).tells =
          subst IsTrue (sym c.next_put.ensures.told) told in
          let is_line : before ≡ line_of (line.Put name size) ++ 10 ∷ mid = search rules in
          whole_text before mid after w.object name size is_line (w.whole here) w.long;
      written = λ told. w.written told
          ∙ ap (λ (x : Spot). overwritten file (p.base + x.place) w.object) spot_is;
      entered = c.enter.ensures.now ∙ ap (λ (x : Spot). fin.insert s.load.now name x) spot_is;
      named = c.enter.ensures.last;
      fills = λ sizes short each filled_is. c.enter.ensures.fills sizes short each filled_is
          ∙ ap (λ (n : ℕ). volumes_of_sizes (sizes ++ n ∷ [])) size_is;
      made = subst (λ (x : ℕ × ℕ). HasMade (g.D.Disk.state c.args.disk.now).turn
          (g.D.Disk.state c.write_text.new.disk).turn x.0 x.1 x.1)
          (λ i. ((c.deref_mut.ensures.len ∙ c.requires.so_far.buf) i, (sym w.long) i))
          (c.in_ok-whole.ensures.made whole);
      asks = subst (λ (x : ℕ × ℕ). Asks (write_weight x.0 x.1) 0 (g.D.Disk.state c.args.disk.now)
          (g.D.Disk.state c.write_text.new.disk))
          (λ i. ((c.deref_mut.ensures.len ∙ c.requires.so_far.buf) i, (sym w.long) i))
          c.write_text.ensures.asks;
    }

pub returns-in_err-next-clause-asks : goal.returns-in_err-next-clause-asks
returns-in_err-next-clause-asks g c = asks_none (caps_of c.args.plan.now.layout)
    (cells_of c.args.so_far.now.filled) (g.D.Disk.state c.args.disk.now)

pub returns-in_default-clause-asks : goal.returns-in_default-clause-asks
returns-in_default-clause-asks g c = asks_none (caps_of c.args.plan.now.layout)
    (cells_of c.args.so_far.now.filled) (g.D.Disk.state c.args.disk.now)

pub returns-in_default-found-clause-asks : goal.returns-in_default-found-clause-asks
returns-in_default-found-clause-asks g c = asks_none (caps_of c.args.plan.now.layout)
    (cells_of c.args.so_far.now.filled) (g.D.Disk.state c.args.disk.now)

pub returns-in_err-whole-clause-asks : goal.returns-in_err-whole-clause-asks
returns-in_err-whole-clause-asks g c = asks_one (caps_of c.args.plan.now.layout)
    (cells_of c.args.so_far.now.filled) _ c.in-Some.size
    (g.D.Disk.state c.args.disk.now) (g.D.Disk.state c.write_text.new.disk)
    (c.deref_mut.ensures.len ∙ c.requires.so_far.buf) c.in-Some-found.ensures.stands.room
    c.write_text.ensures.asks

pub returns-then-not-whole-clause-asks : goal.returns-then-not-whole-clause-asks
returns-then-not-whole-clause-asks g c = asks_one (caps_of c.args.plan.now.layout)
    (cells_of c.args.so_far.now.filled) _ c.in-Some.size
    (g.D.Disk.state c.args.disk.now) (g.D.Disk.state c.write_text.new.disk)
    (c.deref_mut.ensures.len ∙ c.requires.so_far.buf) c.in-Some-found.ensures.stands.room
    c.write_text.ensures.asks

pub returns-clause-asks : goal.returns-clause-asks
returns-clause-asks g c = asks_one (caps_of c.args.plan.now.layout)
    (cells_of c.args.so_far.now.filled) _ c.in-Some.size
    (g.D.Disk.state c.args.disk.now) (g.D.Disk.state c.write_text.new.disk)
    (c.deref_mut.ensures.len ∙ c.requires.so_far.buf) c.in-Some-found.ensures.stands.room
    c.write_text.ensures.asks
