-- The digits of small numbers.
use Rattle.std.proofs.Common.{arith, refl}
use Rattle.std.proofs.lemmas.Fmt.{decimal_digit}
use Rattle.desk_model.proofs.laws.worked_texts.Goals as goal

pub returns-clause-say : goal.returns-clause-say
returns-clause-say c = rw (decimal_digit 0 (omega arith)) (rw (decimal_digit 5 (omega arith)) refl)

pub returns-clause-serve : goal.returns-clause-serve
returns-clause-serve c = rw (decimal_digit 7 (omega arith)) refl

pub returns-clause-full : goal.returns-clause-full
returns-clause-full c = rw (decimal_digit 3 (omega arith)) refl

pub returns-clause-to : goal.returns-clause-to
returns-clause-to c = rw (decimal_digit 1 (omega arith)) refl
