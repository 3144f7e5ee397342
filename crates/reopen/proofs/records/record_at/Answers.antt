use Rattle.std.proofs.Common.{◌≡◌, ◌+◌, ◌-◌, ◌∙◌, ap, arith, drop, sym, take, rules}
use Rattle.std.specs.Option.{option_copied}
use Rattle.std.proofs.lemmas.List.{take-take}
use Rattle.byte_ranges.specs.Ranges.{bytes_at}
use Rattle.slot_codec.specs.Choice.{record_after}
use Rattle.reopen.proofs.records.record_at.Goals as goal

pub returns-clause-value : goal.returns-clause-value
returns-clause-value c =
    let l = c.args.len in
    let v = c.args.version in
    let gap : c.args.at + l - c.args.at ≡ l = omega arith in
    let cut : take l (take l (drop c.args.at c.args.text.now)) ≡ bytes_at c.args.text.now c.args.at l =
    take-take l l (drop c.args.at c.args.text.now) (omega arith) in
    let same : option_copied c.as_ref.result ≡ c.args.before.now = search rules in
    c.read_record_after.ensures.value
    ∙ ap (λ n. record_after v (take n (take (c.args.at + l - c.args.at) (drop c.args.at c.args.text.now)))
    (option_copied c.as_ref.result)) (sym c.requires.len)
    ∙ ap (λ k. record_after v (take l (take k (drop c.args.at c.args.text.now)))
    (option_copied c.as_ref.result)) gap
    ∙ ap (λ b. record_after v (take l (take l (drop c.args.at c.args.text.now))) b) same
    ∙ ap (λ xs. record_after v xs c.args.before.now) cut
