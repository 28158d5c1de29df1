use Rattle.core_text.proofs.CommonWords.{◌≡◌, ◌++◌, true, length, list_all, is_record}
use Rattle.core_text.proofs.Whole.{records_text}
use Rattle.core_text.proofs.reading.take_records.Given as goal

-- the text is that of the records so far, followed by the rest
abbrev pub invariant-loop-rest : goal.invariant-loop-rest
invariant-loop-rest g l = record {
  are : list_all (is_record l.version) l.records.items ≡ true;
  whole : records_text l.version l.records.items ++ l.rest ≡ l.text;
}

abbrev pub decreases-loop-rest : goal.decreases-loop-rest
decreases-loop-rest g l = length l.rest
