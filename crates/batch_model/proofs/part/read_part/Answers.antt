use Rattle.std.specs.Prelude.{◌≡◌, ◌++◌, ◌∷◌}
use Rattle.std.proofs.Common.{subst, sym}
use Rattle.std.proofs.lemmas.Bool.{true≢false}
use Rattle.slot_codec.specs.Names.{IsName}
use Rattle.ask_text.specs.Asks.{IsAsk, line_of}
use Rattle.ask_text.specs.declared.ask.Ask.{Ask}
use Rattle.batch_model.proofs.PartLaws.{no_del, no_object, no_put, none_begins}
use Rattle.batch_model.proofs.part.read_part.Goals as goal

pub returns-in_default : goal.returns-in_default
returns-in_default c = none_begins c.args.text.now c.in_default.ensures

pub returns-in_default-new : goal.returns-in_default-new
returns-in_default-new c = no_del c.args.text.now c.in-Some.rest.now c.in-Del.name
    (subst IsAsk c.in-Del.is c.in-Some.ensures.0)
    (subst (λ (a : Ask). c.args.text.now ≡ line_of a ++ 10 ∷ c.in-Some.rest.now) c.in-Del.is
    c.in-Some.ensures.1)
    (λ named. true≢false (sym (c.in_default-new.ensures.valid.1
    (subst IsName (sym c.as_bytes.ensures.value) named))))

pub returns-in_default-new-2 : goal.returns-in_default-new-2
returns-in_default-new-2 c = no_put c.args.text.now c.in-Some.rest.now c.in-Put.name c.in-Put.size
    (subst IsAsk c.in-Put.is c.in-Some.ensures.0)
    (subst (λ (a : Ask). c.args.text.now ≡ line_of a ++ 10 ∷ c.in-Some.rest.now) c.in-Put.is
    c.in-Some.ensures.1)
    (λ named. true≢false (sym (c.in_default-new-2.ensures.valid.1
    (subst IsName (sym c.as_bytes-in-Put.ensures.value) named))))

pub returns-in_default-read_object : goal.returns-in_default-read_object
returns-in_default-read_object c = no_object c.args.text.now c.in-Some.rest.now c.in-Put.name c.in-Put.size
    (subst IsAsk c.in-Put.is c.in-Some.ensures.0)
    (subst (λ (a : Ask). c.args.text.now ≡ line_of a ++ 10 ∷ c.in-Some.rest.now) c.in-Put.is
    c.in-Some.ensures.1)
    c.in_default-read_object.ensures
