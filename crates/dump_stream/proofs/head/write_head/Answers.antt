-- The line is written word after word.
use Rattle.std.proofs.Common.{arith, ◌≡◌, ◌∙◌, ◌+◌, ◌++◌, List, ℕ, ap, sym, take, length, length-append, append_assoc, append-nil}
use Rattle.std.specs.Prelude.{codes, flat_map, slice_index}
use Rattle.std.specs.Fmt.{decimal}
use Rattle.dump_stream.specs.Heads.{volume_text, volumes_of_head}
use Rattle.dump_stream.proofs.WriteLaws.{few_digits, few_volume_digits, room_in, volumes_one}
use Rattle.dump_stream.proofs.head.write_head.Goals as goal

pub push_number-requires : goal.push_number-requires
push_number-requires g c = omega (
  arith,
  few_digits c.args.head.now.count c.requires.head.few,
  ap length c.push.ensures,
  length-append c.new-line.result.items (codes "dump "),
  ap length c.new-line.ensures,
)

pub classes-init : goal.classes-init
classes-init g c = record {
  so_far = c.push_number.ensures
      ∙ ap (λ xs. xs ++ decimal c.args.head.now.count)
      (c.push.ensures ∙ ap (λ xs. xs ++ codes "dump ") c.new-line.ensures)
      ∙ ap (λ xs. codes "dump " ++ xs) (sym (append-nil (decimal c.args.head.now.count)));
  room = omega (
    arith,
    few_digits c.args.head.now.count c.requires.head.few,
    ap length c.push_number.ensures,
    length-append c.push.new.line.items (decimal c.args.head.now.count),
    ap length c.push.ensures,
    length-append c.new-line.result.items (codes "dump "),
    ap length c.new-line.ensures,
  );
}

-- what the line has behind a volume
grown : (line blank more digits : List ℕ) → blank ≡ line ++ codes " " → more ≡ blank ++ digits
    → length more ≡ length line + 1 + length digits
grown line blank more digits is also = omega (
  arith,
  ap length also,
  length-append blank digits,
  ap length is,
  length-append line (codes " "),
)

pub push_number-requires-in-classes : goal.push_number-requires-in-classes
push_number-requires-in-classes g c = omega (
  arith,
  few_volume_digits c.args.head.now.count c.classes.c c.get.result c.requires.head.few
      (omega (arith, c.classes-test.true, c.requires.fits))
      (omega (arith, c.get.ensures, c.requires.head.bounds c.classes.c c.classes-test.true)),
  room_in (c.classes.c + 1) (omega (arith, c.classes-test.true, c.requires.fits)),
  c.classes.invariant.room,
  ap length c.push-in-classes.ensures,
  length-append c.classes.line.items (codes " "),
)

pub classes-preserved : goal.classes-preserved
classes-preserved g c =
    let vs = volumes_of_head c.args.head.now in
    let before = flat_map volume_text (take c.classes.c vs) in
    record {
      so_far = c.push_number-in-classes.ensures
          ∙ ap (λ xs. xs ++ decimal c.get.result) (c.push-in-classes.ensures
          ∙ ap (λ xs. xs ++ codes " ") c.classes.invariant.so_far)
          ∙ append_assoc (codes "dump " ++ decimal c.args.head.now.count ++ before) (codes " ")
          (decimal c.get.result)
          ∙ ap (λ v. (codes "dump " ++ decimal c.args.head.now.count ++ before) ++ (codes " " ++ decimal v))
          c.get.ensures
          ∙ append_assoc (codes "dump " ++ decimal c.args.head.now.count) before
          (codes " " ++ decimal (slice_index vs c.classes.c))
          ∙ ap (λ xs. (codes "dump " ++ decimal c.args.head.now.count) ++ xs)
          (sym (volumes_one c.classes.c vs
          (omega (arith, c.classes-test.true, c.requires.fits, c.requires.head.row.full))));
      room = omega (
        arith,
        few_volume_digits c.args.head.now.count c.classes.c c.get.result c.requires.head.few
            (omega (arith, c.classes-test.true, c.requires.fits))
            (omega (arith, c.get.ensures, c.requires.head.bounds c.classes.c c.classes-test.true)),
        c.classes.invariant.room,
        grown c.classes.line.items c.push-in-classes.new.line.items c.push_number-in-classes.new.line.items
            (decimal c.get.result) c.push-in-classes.ensures c.push_number-in-classes.ensures,
      );
    }
