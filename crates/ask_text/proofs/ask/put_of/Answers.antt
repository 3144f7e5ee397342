-- The line of a put has one blank behind the name, and the size behind it.
use Rattle.std.proofs.Common.{◌∙◌, refl, sym, subst}
use Rattle.std.proofs.lemmas.Bool.{true≢false}
use Rattle.ask_text.proofs.AskLemmas.{asks_no_put, is_put, no_blank, no_name, no_size}
use Rattle.ask_text.specs.Words.{IsWord}
use Rattle.ask_text.proofs.ask.put_of.Goals as goal

pub returns-in_default-clause-fault : goal.returns-in_default-clause-fault
returns-in_default-clause-fault c = asks_no_put c.args.words.now (no_blank c.args.words.now cc)

pub returns-in_default-new-clause-fault : goal.returns-in_default-new-clause-fault
returns-in_default-new-clause-fault c =
    let found = sym c.first_blank.ensures ∙ c.in-Some.is in
    asks_no_put c.args.words.now (no_name c.args.words.now c.in-Some.at found
    (λ word. true≢false (sym (c.in_default-new.ensures.valid.1 word))))

pub returns-in_default-size-clause-fault : goal.returns-in_default-size-clause-fault
returns-in_default-size-clause-fault c =
    let found = sym c.first_blank.ensures ∙ c.in-Some.is in
    asks_no_put c.args.words.now (no_size c.args.words.now c.in-Some.at found c.in_default-size.ensures)

pub returns-clause-read : goal.returns-clause-read
returns-clause-read c =
    let found = sym c.first_blank.ensures ∙ c.in-Some.is in
    let front = c.in-Some-new.ensures.value in (
      is_put c.args.words.now c.in-Some.at c.in-Some-new.name c.in-Some-size.size found front
          c.in-Some-size.ensures.1,
      (
        subst IsWord (sym c.in-Some-new.ensures.value) (c.in-Some-new.ensures.valid.0 refl),
        c.in-Some-size.ensures.0,
      ),
    )
