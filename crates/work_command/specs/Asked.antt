-- Which jobs are asked for, and what is put once all were done.
use Rattle.std.specs.Prelude.{◌≡◌, ℕ, Bool, List, ◌++◌, length, Option, Some, None}
use Rattle.map_model.specs.Requests.{Reply, Request}
use Rattle.store_model.specs.Connection.{StoreValue}
use Rattle.read_cache.specs.Lists.{after_all, empty_listing}
use Rattle.work_maker.specs.Jobs.{jobs}
use Rattle.work_session.specs.declared.summary.Summary.{Summary}
use Rattle.work_command.specs.Summaries.{cache_lines, summary_text}

-- ---- what is asked for

-- the jobs of a number, and how many; and how many objects a cache has room for through which they are done,
-- where there is one
pub record NumberedJobs : Type 0 where
  pub number : ℕ
  pub count : ℕ
  pub entries : Option ℕ

abbrev pub jobs_numbered : ℕ → ℕ → Option ℕ → NumberedJobs
jobs_numbered number count entries = record { number = number; count = count; entries = entries }

-- these jobs for a store
abbrev pub jobs_of : NumberedJobs → StoreValue → List Request
jobs_of asked s = jobs asked.number asked.count s.in_use.block.names

-- ---- what is put

-- After the summary come the counts of the list that these replies leave of an empty one, where it is said of
-- each request whether it was a drop, if it was a miss.
pub record TellsCache (entries : ℕ) (requests : List Request) (replies : List Reply) (x : Summary)
    (text : List ℕ) : Type 0 where
  pub drops : List Bool
  pub each : length drops ≡ length requests
  pub lines : text ≡ summary_text x ++ cache_lines (after_all drops requests replies (empty_listing entries))

-- The text of requests that were replied so, and summed up: the summary, and the counts of a cache.
abbrev pub Tells : Option ℕ → List Request → List Reply → Summary → List ℕ → Type 0
Tells None requests replies x text = text ≡ summary_text x
Tells (Some entries) requests replies x text = TellsCache entries requests replies x text

-- The summary of requests that were replied to in some way, and the counts of a cache, as of those replies.
pub record TellsSome (entries : ℕ) (x : Summary) (text : List ℕ) : Type 0 where
  pub requests : List Request
  pub all : x.requests ≡ length requests
  pub replies : List Reply
  pub answered : length replies ≡ length requests
  pub tells : TellsCache entries requests replies x text

-- the text whatever is told of the file
abbrev pub TellsOn : Option ℕ → Summary → List ℕ → Type 0
TellsOn None x text = text ≡ summary_text x
TellsOn (Some entries) x text = TellsSome entries x text
