use Rattle.std.proofs.Common.{◌≡◌, ◌<◌, get_or, sym, subst, ◌∙◌, arith}
use Rattle.std.proofs.lemmas.Bool.{cases_eq}
use mathlib.Core.Logic.{⊎_elim}
use Rattle.extent_table.specs.Parts.{digest_in}
use Rattle.extent_table.proofs.digests.carry_digests.Goals as goal

pub ranks-preserved : goal.ranks-preserved
ranks-preserved c = record {
  list = c.put_digest.ensures.list;
  carried = λ i lt. ⊎_elim
      (λ (e : i ≡ c.ranks.rank). subst
      (λ j. digest_in c.put_digest.new.digests.items (get_or c.args.to.now j 0)
      ≡ digest_in c.args.digests.now (get_or c.args.from.now j 0)) (sym e)
      (c.put_digest.ensures.here ∙ c.digest_at-digest.ensures.value))
      (λ apart. let less : i < c.ranks.rank = omega (arith, lt, apart) in
      c.put_digest.ensures.others (get_or c.args.to.now i 0)
      (c.requires.apart i c.ranks.rank less c.ranks-test.true) ∙ c.ranks.invariant.carried i less)
      (cases_eq i c.ranks.rank);
}
