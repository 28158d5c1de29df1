use Rattle.core_text.proofs.CommonWords.{◌≡◌, ◌++◌, map, drop, record_of, slot_line, text_of_lines, V2}
use Rattle.core_text.proofs.writing.put_slots.Given as goal

-- the text so far and that of the remaining records are the whole text
abbrev pub invariant-loop-slot : goal.invariant-loop-slot
invariant-loop-slot g l = l.text.items ++ text_of_lines (map (slot_line V2) (map record_of (drop l.slot-index l.slots)))
    ≡ l.fn.text.items ++ text_of_lines (map (slot_line V2) (map record_of l.slots))
