-- What a maker of jobs has still to give, and what its jobs ask.
use Rattle.std.specs.Prelude.{if◌then◌else◌, List, [], Some, None}
use Rattle.map_model.specs.Requests.{Request}
use Rattle.map_model.specs.Requests as ask
use Rattle.work_maker.specs.Jobs.{counting_bytes, jobs_from}
use Rattle.work_maker.specs.declared.job.Job.{Job}
use Rattle.work_maker.specs.declared.job.Job.TheVariants as job
use Rattle.work_maker.specs.declared.work.Work.{Work}

-- the request that a job is
abbrev pub asked_by : Job → Request
asked_by (job.Put name size first) =
    ask.change (record { name = name; object = Some (counting_bytes first size) })
asked_by (job.Del name) = ask.change (record { name = name; object = None })
asked_by (job.Get name) = ask.get name
asked_by job.Keep = ask.keep

-- the jobs that are left
abbrev pub jobs_left : Work → List Request
jobs_left work = if work.is_done then [] else jobs_from work.names work.next work.draws work.words
