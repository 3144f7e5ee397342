-- The texts of `work` and of `cached`: the summary of what the jobs of a number did, and the counts of a
-- cache.
use Rattle.std.specs.Prelude.{ℕ, List, ◌++◌, codes}
use Rattle.command_face.specs.Lines.{numbered}
use Rattle.read_cache.specs.Lists.{Listing}
use Rattle.work_session.specs.declared.summary.Summary.{Summary}
use Rattle.work_session.specs.declared.summary.Cost.{Cost}

-- a line of a word and a number
unfoldable pub count_line : List ℕ → ℕ → List ℕ
count_line word n = word ++ numbered n ++ codes "\n"

-- a line of a cost: what was moved weighs so much by it, and what was asked for so much
unfoldable pub cost_line : List ℕ → Cost → List ℕ
cost_line word w = word ++ numbered w.moved ++ numbered w.asked ++ codes "\n"

-- how many jobs there were, and how they were answered
abbrev pub answer_lines : Summary → List ℕ
answer_lines s = count_line (codes "requests") s.requests ++ count_line (codes "ok") s.ok
    ++ count_line (codes "kept") s.kept ++ count_line (codes "read") s.read
    ++ count_line (codes "refused") s.refused

-- what the store has after them, and how many bytes were moved
abbrev pub store_lines : Summary → List ℕ
store_lines s = count_line (codes "names") s.names ++ count_line (codes "bytes") s.bytes
    ++ count_line (codes "length") s.length ++ count_line (codes "moved") s.moved

-- what that cost
abbrev pub cost_lines : Summary → List ℕ
cost_lines s = cost_line (codes "linear") s.linear ++ cost_line (codes "flat") s.flat
    ++ cost_line (codes "seek") s.seek

-- the twelve lines
abbrev pub summary_text : Summary → List ℕ
summary_text s = answer_lines s ++ store_lines s ++ cost_lines s

-- how many gets were of objects that a cache had, how many of ones that it hadn't, and how many of the latter
-- it didn't take for want of memory
abbrev pub cache_lines : Listing → List ℕ
cache_lines l = count_line (codes "hits") l.hits ++ count_line (codes "misses") l.misses
    ++ count_line (codes "drops") l.drops

-- Eleven jobs as a worked example, whose moves weigh what three puts of 5, 10 and 100 bytes had moved.
abbrev pub eleven_jobs : Summary
eleven_jobs = record {
  requests = 11;
  ok = 4;
  kept = 3;
  read = 4096;
  refused = 2;
  names = 3;
  bytes = 115;
  length = 127;
  moved = 325;
  linear = record { moved = 21810380800; asked = 7717519360 };
  flat = record { moved = 566231040; asked = 272629760 };
  seek = record { moved = 58049167360; asked = 25165824000 };
}
