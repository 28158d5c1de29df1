use Rattle.inittab_text.proofs.Words.{◌≡◌, ◌++◌, ◌≤◌, length, drop, texts_of, TEXT_LIMIT, entries_of_texts}
use Rattle.inittab_text.proofs.Words.{faults_of_texts, faults_of_parts, size_of_texts, table_of_texts}
use Rattle.inittab_text.specs.declared.parts.TheConstants.{PART_LIMIT}
use Rattle.inittab_text.proofs.parts.read_fitting.Given as goal

abbrev pub invariant-loop-part : goal.invariant-loop-part
invariant-loop-part g l = record {
  counted : l.number ≡ l.part-index;
  few : length l.parts ≤ PART_LIMIT;
  short : size_of_texts (texts_of (drop l.part-index l.parts)) ≤ TEXT_LIMIT;
  table : entries_of_texts l.table (texts_of (drop l.part-index l.parts)) ≡ table_of_texts (texts_of l.parts);
  faults : l.faults.items ++ faults_of_texts l.table l.number (texts_of (drop l.part-index l.parts))
      ≡ faults_of_parts (texts_of l.parts);
}
