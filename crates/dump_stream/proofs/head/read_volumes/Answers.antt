-- The volumes are read one after another.
use Rattle.std.proofs.Common.{◌≡◌, ◌∙◌, ◌+◌, ◌++◌, ◌*◌, ◌^◌, ◌≤◌, List, ℕ, ap, sym, subst, drop, arith, length, refl}
use Rattle.size_class.specs.Rows.{cells_of}
use Rattle.dump_stream.specs.Heads.{Ends, ReadsVolumes, volume_text}
use Rattle.dump_stream.proofs.ReadLaws.{from_on, reads_all, reads_head, reads_more, reads_none, shift_small, stops_behind, stops_large, stops_none}
use Rattle.dump_stream.proofs.head.read_volumes.Goals as goal

pub classes-init : goal.classes-init
classes-init g c = subst (λ (vs : List ℕ). ReadsVolumes g.row.C c.args.count c.args.text.now 0 0 vs)
    (sym c.zero-volumes.ensures) (reads_none c.requires.fits c.args.text.now c.requires.ends)

pub slice_bounds-next_volume-count : goal.slice_bounds-next_volume-count
slice_bounds-next_volume-count g c = c.classes.invariant.within

pub slice_bounds-next_volume-start : goal.slice_bounds-next_volume-start
slice_bounds-next_volume-start g c = c.classes.invariant.within

pub returns-in_default-clause-fault : goal.returns-in_default-clause-fault
returns-in_default-clause-fault g c =
    stops_none c.requires.fits c.args.text.now c.classes.auto.c-end c.classes.invariant c.classes-test.true
    (λ v rest fits ends is. c.in_default.ensures.none refl v rest fits ends
    (from_on c.classes.at c.args.text.now ∙ is))

-- the volume that was found, in the rest of the text
found : (at n v : ℕ) (text part : List ℕ) → part ≡ drop at text → (part ≡ volume_text v ++ drop n part)
    × Ends (drop n part)
    → (drop at text ≡ volume_text v ++ drop n (drop at text)) × Ends (drop n (drop at text))
found at n v text part same is = subst (λ (xs : List ℕ). (xs ≡ volume_text v ++ drop n xs) × Ends
    (drop n xs)) same is

pub returns-then-volume-count-clause-fault : goal.returns-then-volume-count-clause-fault
returns-then-volume-count-clause-fault g c =
    let q = c.in-Some.ensures.found in
    let f = found c.classes.at c.in-Some.n c.in-Some.volume c.args.text.now _
    (from_on c.classes.at c.args.text.now) (q.1, q.2) in
    let small : c.args.count * 2 ^ (c.classes.c + 1) ≤ 2 ^ 48 =
    shift_small c.args.count c.classes.c c.requires.few (omega
    (arith, c.classes-test.true, c.requires.fits)) in
    stops_large c.requires.fits c.args.text.now c.classes.auto.c-end c.classes.invariant c.classes-test.true
    c.in-Some.volume c.in-Some.n q.0 f.0 f.1 (omega (arith, c.if-volume-count.true, small))

pub classes-preserved : goal.classes-preserved
classes-preserved g c =
    let q = c.in-Some.ensures.found in
    let f = found c.classes.at c.in-Some.n c.in-Some.volume c.args.text.now _
    (from_on c.classes.at c.args.text.now) (q.1, q.2) in
    let small : c.args.count * 2 ^ (c.classes.c + 1) ≤ 2 ^ 48 =
    shift_small c.args.count c.classes.c c.requires.few (omega
    (arith, c.classes-test.true, c.requires.fits)) in
    subst (λ (vs : List ℕ). ReadsVolumes g.row.C c.args.count c.args.text.now (c.classes.c + 1)
    (c.classes.at + c.in-Some.n) vs) (sym c.set.ensures)
    (reads_more c.requires.fits c.args.text.now c.classes.auto.c-end c.classes.invariant c.classes-test.true
    c.in-Some.volume c.in-Some.n q.0 f.0 f.1 (omega (arith, c.if-volume-count.false, small))
    (omega (arith, c.in-Some.ensures.within, ap length (from_on c.classes.at c.args.text.now))))

-- all classes were read
last : (C count c at : ℕ) (text vs : List ℕ) → c ≡ C → ReadsVolumes C count text c at vs
    → ReadsVolumes C count text C at vs
last C count c at text vs same r = subst (λ (m : ℕ). ReadsVolumes C count text m at vs) same r

pub returns-then-at-text-clause-fault : goal.returns-then-at-text-clause-fault
returns-then-at-text-clause-fault g c =
    stops_behind c.requires.fits c.args.text.now
    (last g.row.C c.args.count c.classes.c c.classes.at c.args.text.now (cells_of c.classes.volumes)
    (omega (arith, c.classes-test.false, c.classes.auto.c-end)) c.classes.invariant) c.if-at-text.true

pub returns-clause-head : goal.returns-clause-head
returns-clause-head g c =
    reads_head c.requires.fits c.args.text.now
    (last g.row.C c.args.count c.classes.c c.classes.at c.args.text.now (cells_of c.classes.volumes)
    (omega (arith, c.classes-test.false, c.classes.auto.c-end)) c.classes.invariant) c.requires.few

pub returns-clause-read : goal.returns-clause-read
returns-clause-read g c =
    reads_all c.requires.fits c.args.text.now
    (last g.row.C c.args.count c.classes.c c.classes.at c.args.text.now (cells_of c.classes.volumes)
    (omega (arith, c.classes-test.false, c.classes.auto.c-end)) c.classes.invariant)
    (omega (arith, c.if-at-text.false))
