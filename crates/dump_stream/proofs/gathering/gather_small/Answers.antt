use Rattle.std.proofs.Common.{arith, ap, sym, rules, ◌≡◌, ◌∙◌, ◌++◌, Some, List, ℕ, false, take, Err}
use Rattle.std.proofs.lemmas.Grind.{common_steps}
use Rattle.std.specs.Prelude.{codes, refl}
use Rattle.byte_ranges.specs.Ranges.{bytes_at}
use Rattle.segment_layout.specs.Books.{differs}
use Rattle.dump_stream.proofs.FillLaws.{filled, held_stays, part_is, part_long}
use Rattle.dump_stream.proofs.GatherLaws.{cut_in_held, held_behind}
use Rattle.dump_stream.proofs.gathering.gather_small.Goals as goal

pub returns-clause-gathers : goal.returns-clause-gathers
returns-clause-gathers g c = λ told.
    let bytes = bytes_at (g.D.Disk.state c.args.disk.now).file c.args.at c.args.size in
    let line = c.args.line.now in
    let buf = c.args.buf.now in
    let held = c.args.held in
    let copied = c.copy_from_slice.new.self in
    let same : copied ≡ line = c.copy_from_slice.ensures.after in
    let part = c.read.new.out in
    let is : part ≡ bytes = c.in-Ok.ensures.bytes told
    ∙ ap (λ (n : ℕ). bytes_at (g.D.Disk.state c.args.disk.now).file c.args.at n)
    (part_long buf line copied part held c.args.size c.requires.long same) in
    let sound : differs c.args.digest (Some bytes) ≡ false =
    ap (λ (xs : List ℕ). differs c.args.digest (Some xs))
    (sym is ∙ sym (part_is buf line copied part held c.args.size c.requires.long same c.read.auto.out))
    ∙ sym c.if-is_spoilt.ensures in
    held_behind (differs c.args.digest (Some bytes)) (take held buf) (line ++ (bytes ++ codes "\n"))
    (g.O.Sink.state c.args.output.now) (g.O.Sink.state c.args.output.now) _ _ sound refl
    (filled buf line copied part held c.args.size c.requires.long same c.read.auto.out
    ∙ ap (λ (xs : List ℕ). take held buf ++ (line ++ (xs ++ codes "\n"))) is)

pub returns-in_err-put_whole-clause-gathers : goal.returns-in_err-put_whole-clause-gathers
returns-in_err-put_whole-clause-gathers g c = λ told.
    let buf = c.args.buf.now in
    let held = c.args.held in
    let why = c.in_err-put_whole.field-0.0 in
    let is : c.from_residual.result ≡ Err why = search rules in
    let stays = held_stays buf c.args.line.now c.copy_from_slice.new.self c.read.new.out held c.args.size
    c.requires.long c.copy_from_slice.ensures.after c.read.auto.out in
    rw is (cut_in_held _ (take held buf) _ (g.O.Sink.state c.args.output.now)
    (g.O.Sink.state c.put_whole.new.sink) _ why c.in_err-put_whole.ensures.only.0
    (λ sink_told. rw stays at (c.in_err-put_whole.ensures.put sink_told).front))

pub returns-in_default : goal.returns-in_default
returns-in_default g c = grind (arith, common_steps)
