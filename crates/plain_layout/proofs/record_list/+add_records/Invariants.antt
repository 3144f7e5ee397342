use Rattle.plain_layout.proofs.record_list.+add_records.Given as goal

abbrev pub decreases-add_records : goal.decreases-add_records
decreases-add_records l = l.count
