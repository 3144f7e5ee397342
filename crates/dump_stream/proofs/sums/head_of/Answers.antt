use Rattle.std.proofs.Common.{arith, rules, ap, sym, ◌≡◌, ◌∙◌, ◌≤◌, List, ℕ, take, length, subst}
use Rattle.size_class.specs.Rows.{cells_of}
use Rattle.size_class.specs.declared.TheConstants.{SIZE_MAX}
use Rattle.segment_layout.specs.Books.{volumes_of_sizes}
use Rattle.dump_stream.specs.Dumping.{sizes_at}
use Rattle.dump_stream.specs.Heads.{IsHead}
use Rattle.dump_stream.proofs.SumLaws.{head_of_sizes, no_volumes, size_few, sizes_all, sizes_count, sizes_more, sizes_short, sizes_take}
use Rattle.dump_stream.proofs.sums.head_of.Goals as goal

pub names-init : goal.names-init
names-init g c = record { so_far = c.zero-volumes.ensures ∙ no_volumes }

pub add_size-requires : goal.add_size-requires
add_size-requires g c =
    let small : c.in_order.result.2.size ≤ SIZE_MAX =
    size_few SIZE_MAX c.args.table.now.now c.requires.small c.names.n c.in_order.result.1 c.in_order.result.2
    c.in_order.ensures.entry in
    search rules

pub names-preserved : goal.names-preserved
names-preserved g c =
    let spots = c.args.table.now.now in
    record {
      so_far = c.add_size.ensures (take c.names.n (sizes_at spots))
          (sizes_short spots c.names.n (omega (arith, c.names-test.true, c.count-n-end.ensures.value))
          (omega (arith, c.requires.table.now_room, c.requires.table.limit)))
          (sizes_take SIZE_MAX c.names.n (sizes_at spots) c.requires.small) c.names.invariant.so_far
          ∙ ap volumes_of_sizes (sym (sizes_more spots c.names.n c.in_order.result.1 c.in_order.result.2
          c.in_order.ensures.entry));
    }

pub returns-clause-volumes : goal.returns-clause-volumes
returns-clause-volumes g c = c.names.invariant.so_far ∙ sizes_all c.args.table.now.now c.names.n
    (omega (arith, c.names-test.false, c.count-n-end.ensures.value))

pub returns-clause-head : goal.returns-clause-head
returns-clause-head g c =
    let spots = c.args.table.now.now in
    let count : length (sizes_at spots) ≡ c.count.result = sizes_count spots ∙ sym c.count.ensures.value in
    let volumes : volumes_of_sizes (sizes_at spots) ≡ cells_of c.names.volumes =
    sym (c.names.invariant.so_far ∙ sizes_all spots c.names.n
    (omega (arith, c.names-test.false, c.count-n-end.ensures.value))) in
    subst (λ (n : ℕ). IsHead g.row.C n (cells_of c.names.volumes)) count
    (subst (λ (vs : List ℕ). IsHead g.row.C (length (sizes_at spots)) vs) volumes
    (head_of_sizes g.row.C SIZE_MAX (sizes_at spots) c.requires.fits c.requires.wide
    (omega (arith, sizes_count spots, c.requires.table.now_room, c.requires.table.limit)) c.requires.small))
