use Rattle.std.proofs.Common.{◌≡◌, ap, arith, false, refl, rules, subst, sym, length, take, [], ◌∷◌, ℕ}
use Rattle.std.proofs.lemmas.List.{length-take-le}
use Rattle.std.specs.Prelude.{Err, ◌+◌}
use Rattle.reopen.specs.Loads.{IsReadAs, unboxed}
use Rattle.reopen.proofs.StateLaws.{keeps_read, loaded_is_read}
use Rattle.dump_stream.specs.declared.putting.DumpFault.TheVariants as why
use Rattle.lent_store.proofs.DumpLaws.{sink_stops}
use Rattle.lent_store.proofs.stream.put_dump.Goals as goal

-- the file of a store has no logs
pub dump_boxed-requires : goal.dump_boxed-requires
dump_boxed-requires c =
    let x = unboxed c.args.loaded.now in
    let keeps = keeps_read false x c.requires.loaded in
    let from = subst (λ file. IsReadAs file x) (sym c.of-view.ensures.file)
    (loaded_is_read c.args.file.now.file x c.requires.from) in
    (search rules, (search rules, (search rules, (search rules, (keeps, λ told. from)))))

pub returns-clause-dumps : goal.returns-clause-dumps
returns-clause-dumps c =
    let held = c.in-Ok.dumped in
    let put = c.dump_boxed.new.output in
    let is : c.dump_boxed.result ≡ Err why.Sink = search rules in
    let long : length held.bytes.items ≡ length c.args.out.now + 1 = search rules in
    let none : length held.bytes.items ∷ take held.at held.bytes.items ≡ length held.bytes.items ∷ [] =
    ap (λ (n : ℕ). length held.bytes.items ∷ take n held.bytes.items) c.in-Ok.ensures.none in
    sink_stops (unboxed c.args.loaded.now) c.args.file.now.file _ _ _ _ c.dump_boxed.result
    c.dump_boxed.ensures refl c.of-view.ensures.file refl (length held.bytes.items)
    (length put.bytes.items) (take put.at put.bytes.items) none refl c.args.out.now is
    c.in-Ok.ensures.calm long
    (λ more. omega (arith, put.full more, length-take-le put.at put.bytes.items put.inside))
