use Rattle.std.proofs.Common.{◌≡◌, [], ◌∷◌, take, ap, arith, sym, ◌∙◌}
use Rattle.std.proofs.lemmas.List.{take_all}
use Rattle.slot_codec.specs.Spelling.{kind_code}
use Rattle.slot_codec.proofs.PutLemmas.{grown}
use Rattle.slot_codec.proofs.entry.write_entry_head.Goals as goal

pub returns : goal.returns
returns c =
    let h = c.args.head.now in
    let two : take 2 c.put.new.out ≡ kind_code h.kind ∷ h.boundary ∷ [] =
    c.put.ensures.part ∙ ap (λ k. k ∷ h.boundary ∷ []) c.code_of.ensures in
    let padding = grown _ _ _ _ 2 5 two c.put_zeros.ensures in
    let cells = grown _ _ _ _ 7 8 padding c.put_number.ensures.part in
    let moved = grown _ _ _ _ 15 8 cells c.put_number-2.ensures.part in
    let gone = grown _ _ _ _ 23 8 moved c.put_number-3.ensures.part in
    let puts = grown _ _ _ _ 31 8 gone c.put_number-4.ensures.part in
    let wall = grown _ _ _ _ 39 8 puts c.put_number-5.ensures.part in
    sym (take_all 55 c.put_number-6.new.out (omega arith))
    ∙ grown _ _ _ _ 47 8 wall c.put_number-6.ensures.part
