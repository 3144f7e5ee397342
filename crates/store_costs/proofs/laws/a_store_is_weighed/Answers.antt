use Rattle.store_costs.proofs.WeighedLaws.{kept_by_file, none_fell, weighed_by_file}
use Rattle.store_costs.proofs.laws.a_store_is_weighed.Goals as goal

pub returns-clause-now : goal.returns-clause-now
returns-clause-now c C cost s file is h over = weighed_by_file s file cost h over is

pub returns-clause-kept : goal.returns-clause-kept
returns-clause-kept c C cost s file is h over = kept_by_file s file cost h over is

pub returns-clause-rises : goal.returns-clause-rises
returns-clause-rises c C s h = none_fell s h
