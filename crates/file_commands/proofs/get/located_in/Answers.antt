use Rattle.std.proofs.Common.{◌≡◌, ◌+◌, ◌≤◌, Some, None, inl, length, subst, sym}
use Rattle.std.specs.FinMap as fin
use Rattle.reopen.specs.Loads.{unboxed}
use Rattle.file_commands.proofs.GettingLaws.{given_here, given_none, lies_in_file}
use Rattle.file_commands.proofs.get.located_in.Goals as goal

pub returns-in-Some-clause-found : goal.returns-in-Some-clause-found
returns-in-Some-clause-found c = λ file from.
    let spot = c.in-Some.spot in
    let is : fin.get c.args.loaded.now.table.now c.args.name.now ≡ Some spot = cc in
    inl (given_here c.args.name.now file (unboxed c.args.loaded.now) spot c.head_len.result c.digest_in.result
    c.requires.loaded from is c.head_len.ensures c.digest_in.ensures)

pub returns-in-Some-clause-within : goal.returns-in-Some-clause-within
returns-in-Some-clause-within c = λ file from.
    let spot = c.in-Some.spot in
    let is : fin.get c.args.loaded.now.table.now c.args.name.now ≡ Some spot = cc in
    subst (λ base. base + spot.place + spot.size ≤ length file) (sym c.head_len.ensures)
    (lies_in_file c.args.name.now file (unboxed c.args.loaded.now) spot c.requires.loaded from is)

pub returns-in-None-clause-missing : goal.returns-in-None-clause-missing
returns-in-None-clause-missing c = λ file from.
    let is : fin.get c.args.loaded.now.table.now c.args.name.now ≡ None = cc in
    inl (given_none c.args.name.now file (unboxed c.args.loaded.now) c.requires.loaded from is)
