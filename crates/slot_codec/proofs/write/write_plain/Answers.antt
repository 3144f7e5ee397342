use Rattle.slot_codec.proofs.PutLemmas.{record_grown, record_rest}
use Rattle.slot_codec.proofs.write.write_plain.Goals as goal

pub returns-clause-record : goal.returns-clause-record
returns-clause-record c =
    record_grown _ _ _ _ _ _ _ c.spelled.ensures.named c.spelled.ensures.value c.put.ensures.part
    c.put_number.ensures.part c.put_number-2.ensures.part

pub returns-clause-rest : goal.returns-clause-rest
returns-clause-rest c =
    record_rest c.args.name.now _ c.args.out.now c.put.new.out c.put_number.new.out c.put_number-2.new.out
    c.spelled.ensures.named c.spelled.ensures.value c.put.ensures.rest
    c.put_number.ensures.rest c.put_number-2.ensures.rest
