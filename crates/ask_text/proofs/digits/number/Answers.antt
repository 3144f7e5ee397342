-- Bytes that spell a number below 2^64 are text, are parsed as it, and are printed as it again.
use Rattle.std.proofs.Common.{◌≡◌, ◌∙◌, ap, sym, subst, arith}
use Rattle.std.proofs.lemmas.Bool.{true≢false}
use Rattle.std.proofs.lemmas.Fmt.{IsAscii-decimal, parse-decimal}
use Rattle.std.proofs.lemmas.Str.{IsUtf8-from_ascii}
use Rattle.std.specs.Fmt.{decimal}
use Rattle.std.specs.Str.{IsUtf8}
use Rattle.ask_text.proofs.digits.number.Goals as goal

pub returns-in_default : goal.returns-in_default
returns-in_default c = λ n fits is. c.in_default.ensures.cases.0
    (subst IsUtf8 (sym is) (IsUtf8-from_ascii (decimal n) (IsAscii-decimal n (omega arith))))

pub returns-in_default-parse : goal.returns-in_default-parse
returns-in_default-parse c = λ n fits is.
    let parsed = parse-decimal 64 n c.in-Ok.text.now c.parse.result (omega arith) (omega arith)
    (c.in-Ok.ensures.cases.0 ∙ is) c.parse.ensures.value.0 in
    cc

pub returns-else-are_same : goal.returns-else-are_same
returns-else-are_same c = λ n fits is.
    let parsed = parse-decimal 64 n c.in-Ok.text.now c.parse.result (omega arith) (omega arith)
    (c.in-Ok.ensures.cases.0 ∙ is) c.parse.ensures.value.0 in
    let same : c.in-Ok-parse.n ≡ n = cc in
    let printed = c.as_bytes.ensures.value ∙ c.format.ensures.text ∙ ap decimal same ∙ sym is in
    true≢false (sym (c.are_same.ensures.1 printed) ∙ c.if-are_same.false)
