-- What stands in front is the line of a request, and its object where that is a put.
use Rattle.std.proofs.Common.{◌∙◌, ◌++◌, ap, sym, arith, refl, subst}
use Rattle.std.specs.Prelude.{IsOk, drop, take}
use Rattle.std.proofs.lemmas.List.{length-take-le}
use Rattle.ask_text.proofs.AskLaws.{lacks-line}
use Rattle.ask_text.specs.Asks.{ask_of, line_of}
use Rattle.ask_text.specs.Inputs.{body_of}
use Rattle.circular_buffer.specs.Buffer.{buffer}
use Rattle.desk_queues.proofs.TextLaws.{bare_of, size_fits, taken_ask, taken_left, taken_newline, taken_object, text_begins_line}
use Rattle.desk_queues.proofs.taken.take_first.Goals as goal
use Rattle.ask_text.proofs.InputLaws.{text_is}

pub take_line-line-requires : goal.take_line-line-requires
take_line-line-requires c = record { line = text_begins_line c.args.ring.now.items c.requires.text }

pub unwrap-ask-requires : goal.unwrap-ask-requires
unwrap-ask-requires c =
    let r = c.requires.text.0 in
    let text = c.requires.text.1 in
    let rest = c.requires.text.2.0 in
    let line = c.as_slice.ensures.value ∙ c.take_line-line.ensures.line (line_of (ask_of r))
    (body_of r ++ rest)
    (lacks-line (ask_of r) text) (c.requires.text.2.1 ∙ text_is r rest) in
    subst IsOk (sym (c.read_ask.ensures.again (ask_of r) (line, text))) refl

pub slice_bounds-take_object-end : goal.slice_bounds-take_object-end
slice_bounds-take_object-end c =
    let fits = size_fits c.args.ring.now.items c.as_slice.result.now c.read_ask.result c.unwrap-ask.result
    (λ l left lacks is. c.as_slice.ensures.value ∙ c.take_line-line.ensures.line l left lacks is)
    c.read_ask.ensures.again c.unwrap-ask.ensures c.requires.text c.in-Put.name c.in-Put.size c.in-Put.is in
    omega (arith, c.requires.room, fits)

pub slice_bounds-take_object-end-in-Put : goal.slice_bounds-take_object-end-in-Put
slice_bounds-take_object-end-in-Put c =
    let fits = size_fits c.args.ring.now.items c.as_slice.result.now c.read_ask.result c.unwrap-ask.result
    (λ l left lacks is. c.as_slice.ensures.value ∙ c.take_line-line.ensures.line l left lacks is)
    c.read_ask.ensures.again c.unwrap-ask.ensures c.requires.text c.in-Put.name c.in-Put.size c.in-Put.is in
    omega (arith, length-take-le c.in-Put.size c.args.body.now (omega (arith, c.requires.room, fits)))

pub returns-in-Put-clause-ask : goal.returns-in-Put-clause-ask
returns-in-Put-clause-ask c =
    taken_ask c.args.ring.now.items c.as_slice.result.now c.read_ask.result c.unwrap-ask.result
    (λ l left lacks is. c.as_slice.ensures.value ∙ c.take_line-line.ensures.line l left lacks is)
    c.read_ask.ensures.again c.unwrap-ask.ensures

pub returns-in-Put-clause-object : goal.returns-in-Put-clause-object
returns-in-Put-clause-object c = λ r rest text whole.
    let asked = taken_ask c.args.ring.now.items c.as_slice.result.now c.read_ask.result c.unwrap-ask.result
    (λ l left lacks is. c.as_slice.ensures.value ∙ c.take_line-line.ensures.line l left lacks is)
    c.read_ask.ensures.again c.unwrap-ask.ensures r rest text whole in
    let fits = size_fits c.args.ring.now.items c.as_slice.result.now c.read_ask.result c.unwrap-ask.result
    (λ l left lacks is. c.as_slice.ensures.value ∙ c.take_line-line.ensures.line l left lacks is)
    c.read_ask.ensures.again c.unwrap-ask.ensures c.requires.text c.in-Put.name c.in-Put.size c.in-Put.is in
    taken_object r c.in-Put.name c.in-Put.size rest c.args.ring.now.capacity c.take_line-line.new.ring
    c.take_object.new.out (take c.in-Put.size c.args.body.now) (sym asked ∙ c.in-Put.is)
    (taken_left c.args.ring.now.items c.args.ring.now.capacity c.take_line-line.new.ring
    c.take_line-line.ensures.left r rest text whole)
    (length-take-le c.in-Put.size c.args.body.now (omega (arith, c.requires.room, fits)))
    c.take_object.ensures.object (drop c.in-Put.size c.args.body.now)

pub returns-in-Put-clause-left : goal.returns-in-Put-clause-left
returns-in-Put-clause-left c = λ r rest text whole.
    let asked = taken_ask c.args.ring.now.items c.as_slice.result.now c.read_ask.result c.unwrap-ask.result
    (λ l left lacks is. c.as_slice.ensures.value ∙ c.take_line-line.ensures.line l left lacks is)
    c.read_ask.ensures.again c.unwrap-ask.ensures r rest text whole in
    let fits = size_fits c.args.ring.now.items c.as_slice.result.now c.read_ask.result c.unwrap-ask.result
    (λ l left lacks is. c.as_slice.ensures.value ∙ c.take_line-line.ensures.line l left lacks is)
    c.read_ask.ensures.again c.unwrap-ask.ensures c.requires.text c.in-Put.name c.in-Put.size c.in-Put.is in
    taken_newline r c.in-Put.name c.in-Put.size rest c.args.ring.now.capacity c.take_line-line.new.ring
    c.take_object.new.ring (take c.in-Put.size c.args.body.now) (sym asked ∙ c.in-Put.is)
    (taken_left c.args.ring.now.items c.args.ring.now.capacity c.take_line-line.new.ring
    c.take_line-line.ensures.left r rest text whole)
    (length-take-le c.in-Put.size c.args.body.now (omega (arith, c.requires.room, fits)))
    c.take_object.ensures.left

pub returns-in_default : goal.returns-in_default
returns-in_default c =
    let asked = taken_ask c.args.ring.now.items c.as_slice.result.now c.read_ask.result c.unwrap-ask.result
    (λ l left lacks is. c.as_slice.ensures.value ∙ c.take_line-line.ensures.line l left lacks is)
    c.read_ask.ensures.again c.unwrap-ask.ensures in
    record {
      ask = asked;
      object = λ r rest text whole.
          (bare_of r (λ name size is. c.in_default.not-Put name size (asked r rest text whole ∙ is))).stands
          c.args.body.now;
      left = λ r rest text whole.
          taken_left c.args.ring.now.items c.args.ring.now.capacity c.take_line-line.new.ring
          c.take_line-line.ensures.left r rest text whole
          ∙ ap (λ xs. buffer (xs ++ rest) c.args.ring.now.capacity)
          (bare_of r (λ name size is. c.in_default.not-Put name size (asked r rest text whole ∙ is))).body;
    }
