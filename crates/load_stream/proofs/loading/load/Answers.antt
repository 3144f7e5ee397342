use Rattle.std.proofs.Common.{◌≡◌, ◌∙◌, ◌++◌, ◌∷◌, ℕ, List, Err, IsTrue, rules, ap, subst, sym}
use Rattle.disk_face.proofs.MomentLaws.{Leaves-weaken}
use Rattle.size_class.specs.declared.TheConstants.{CLASSES}
use Rattle.dump_stream.specs.Heads.{head_line, volumes_of_head}
use Rattle.dump_stream.specs.Loading.{BeginsNone}
use Rattle.load_stream.specs.declared.fault.LoadFault.TheVariants as why
use Rattle.load_stream.specs.declared.plan.Plan.{Plan}
use Rattle.load_stream.specs.Loaded.{TellsTooMany}
use Rattle.load_stream.proofs.LoadLaws.{answers_body, answers_first, asks_body, asks_first, file_loaded, image_loaded, store_loaded, tells_few, whole_body}
use Rattle.load_stream.proofs.loading.load.Goals as goal

pub returns-in_err-plan-clause-answers : goal.returns-in_err-plan-clause-answers
returns-in_err-plan-clause-answers g c told =
    let before = (g.I.Source.state c.args.input.now).left in
    let fault = c.in_err-plan.field-0.0 in
    let is : c.from_residual.result ≡ Err fault = search rules in
    answers_first Plan c.args.names before fault c.from_residual.result is c.in_err-plan.ensures.only
    (λ n same. subst (λ (xs : List ℕ). BeginsNone CLASSES (xs ++ before)) c.new-ahead.ensures
    (c.in_err-plan.ensures.none told n (ap (λ f. Err f) same)))
    (λ n same. subst (λ (xs : List ℕ). TellsTooMany c.args.names (xs ++ before) n) c.new-ahead.ensures
    (c.in_err-plan.ensures.many told n (ap (λ f. Err f) same)))

pub returns-clause-answers : goal.returns-clause-answers
returns-clause-answers g c told =
    let i = g.I.Source.state in
    let p = c.in_ok-plan.plan in
    let before = (i c.args.input.now).left in
    let mid = c.read_plan.new.ahead ++ (i c.read_plan.new.input).left in
    let after = c.fill_new.new.ahead ++ (i c.fill_new.new.input).left in
    let line : IsTrue (i c.args.input.now).tells
    → before ≡ head_line CLASSES p.head.count (volumes_of_head p.head) ++ 10 ∷ mid =
    λ t. sym (ap (λ (xs : List ℕ). xs ++ before) c.new-ahead.ensures) ∙ c.in_ok-plan.ensures.line t in
    let here : IsTrue (i c.read_plan.new.input).tells =
    subst IsTrue (sym c.read_plan.ensures.cause.told) told in
    answers_body c.args.k c.args.names p c.in_ok-plan.ensures.plan c.in_ok-plan.ensures.head
    (i c.args.input.now).tells (i c.read_plan.new.input).tells c.read_plan.ensures.cause.told before mid line
    after (g.D.Disk.state c.args.disk.now) (g.D.Disk.state c.fill_new.new.disk)
    c.fill_new.result c.fill_new.ensures.only told (c.fill_new.ensures.stops here)
    (c.fill_new.ensures.read)

pub returns-clause-whole : goal.returns-clause-whole
returns-clause-whole g c =
    let i = g.I.Source.state in
    let p = c.in_ok-plan.plan in
    let before = (i c.args.input.now).left in
    let mid = c.read_plan.new.ahead ++ (i c.read_plan.new.input).left in
    let line : IsTrue (i c.args.input.now).tells
    → before ≡ head_line CLASSES p.head.count (volumes_of_head p.head) ++ 10 ∷ mid =
    λ t. sym (ap (λ (xs : List ℕ). xs ++ before) c.new-ahead.ensures) ∙ c.in_ok-plan.ensures.line t in
    whole_body c.args.k c.args.names p c.in_ok-plan.ensures.plan c.in_ok-plan.ensures.head
    (i c.args.input.now).tells (i c.read_plan.new.input).tells c.read_plan.ensures.cause.told before mid line
    c.fill_new.new.ahead (i c.fill_new.new.input).left (g.D.Disk.state c.args.disk.now)
    (g.D.Disk.state c.fill_new.new.disk) c.fill_new.result c.fill_new.ensures.read

pub returns-clause-left : goal.returns-clause-left
returns-clause-left g c told =
    let i = g.I.Source.state in
    let p = c.in_ok-plan.plan in
    let before = (i c.args.input.now).left in
    let mid = c.read_plan.new.ahead ++ (i c.read_plan.new.input).left in
    let line : IsTrue (i c.args.input.now).tells
    → before ≡ head_line CLASSES p.head.count (volumes_of_head p.head) ++ 10 ∷ mid =
    λ t. sym (ap (λ (xs : List ℕ). xs ++ before) c.new-ahead.ensures) ∙ c.in_ok-plan.ensures.line t in
    record {
      file = file_loaded c.args.k c.args.names p c.in_ok-plan.ensures.plan c.in_ok-plan.ensures.head
          (i c.args.input.now).tells (i c.read_plan.new.input).tells c.read_plan.ensures.cause.told before mid
          line c.fill_new.new.ahead (i c.fill_new.new.input).left (g.D.Disk.state c.fill_new.new.disk).file
          c.fill_new.result c.fill_new.ensures.only (c.fill_new.ensures.file told);
      past = λ more. store_loaded c.args.k c.args.names p c.in_ok-plan.ensures.plan c.in_ok-plan.ensures.head
          (i c.args.input.now).tells (i c.read_plan.new.input).tells c.read_plan.ensures.cause.told before mid
          line c.fill_new.new.ahead (i c.fill_new.new.input).left (g.D.Disk.state c.fill_new.new.disk).file
          (c.fill_new.ensures.past told more);
      images = λ only. Leaves-weaken _ (image_loaded c.args.k c.args.names p c.in_ok-plan.ensures.plan
          c.in_ok-plan.ensures.head (i c.args.input.now).tells (i c.read_plan.new.input).tells
          c.read_plan.ensures.cause.told before mid line c.fill_new.new.ahead (i c.fill_new.new.input).left)
          (c.fill_new.ensures.images told only);
      rests = c.fill_new.ensures.rests told;
    }

pub returns-in_err-so_far-clause-answers : goal.returns-in_err-so_far-clause-answers
returns-in_err-so_far-clause-answers g c told =
    let i = g.I.Source.state in
    let p = c.in_ok-plan.plan in
    let before = (i c.args.input.now).left in
    let mid = c.read_plan.new.ahead ++ (i c.read_plan.new.input).left in
    let line : IsTrue (i c.args.input.now).tells
    → before ≡ head_line CLASSES p.head.count (volumes_of_head p.head) ++ 10 ∷ mid =
    λ t. sym (ap (λ (xs : List ℕ). xs ++ before) c.new-ahead.ensures) ∙ c.in_ok-plan.ensures.line t in
    let few = tells_few c.args.k c.args.names p c.in_ok-plan.ensures.plan c.in_ok-plan.ensures.head
    (i c.args.input.now).tells (i c.read_plan.new.input).tells c.read_plan.ensures.cause.told before mid line
    told in
    let only : c.in_err-so_far.field-0.0 ≡ why.NoMemory = c.in_err-so_far.ensures.only in
    let is : c.from_residual-in_err-so_far.result ≡ Err c.in_err-so_far.field-0.0 = search rules in
    rw (is, only) few

pub returns-in_err-plan-clause-asks : goal.returns-in_err-plan-clause-asks
returns-in_err-plan-clause-asks g c told =
    let disk = g.D.Disk.state c.args.disk.now in
    asks_first Plan c.args.k c.args.names (g.I.Source.state c.args.input.now).left disk disk
    c.in_err-plan.field-0.0 c.from_residual.result (search rules) c.in_err-plan.ensures.only

pub returns-in_err-so_far-clause-asks : goal.returns-in_err-so_far-clause-asks
returns-in_err-so_far-clause-asks g c told =
    let only : c.in_err-so_far.field-0.0 ≡ why.NoMemory = c.in_err-so_far.ensures.only in
    let is : c.from_residual-in_err-so_far.result ≡ Err c.in_err-so_far.field-0.0 = search rules in
    rw (is, only) tt

pub returns-clause-asks : goal.returns-clause-asks
returns-clause-asks g c told =
    let i = g.I.Source.state in
    let p = c.in_ok-plan.plan in
    let before = (i c.args.input.now).left in
    let mid = c.read_plan.new.ahead ++ (i c.read_plan.new.input).left in
    let line : IsTrue (i c.args.input.now).tells
    → before ≡ head_line CLASSES p.head.count (volumes_of_head p.head) ++ 10 ∷ mid =
    λ t. sym (ap (λ (xs : List ℕ). xs ++ before) c.new-ahead.ensures) ∙ c.in_ok-plan.ensures.line t in
    asks_body c.args.k c.args.names p c.in_ok-plan.ensures.plan c.in_ok-plan.ensures.head
    (i c.args.input.now).tells (i c.read_plan.new.input).tells c.read_plan.ensures.cause.told before mid line
    (g.D.Disk.state c.args.disk.now) (g.D.Disk.state c.fill_new.new.disk) c.fill_new.result told
    c.fill_new.ensures.asks
