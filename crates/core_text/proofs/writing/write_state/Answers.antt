use Rattle.core_text.proofs.CommonWords.{◌≡◌, ◌+◌, ◌++◌, [], ◌∷◌, map, length, ap, ◌∙◌, arith, length-map}
use Rattle.core_text.proofs.CommonWords.{fields_written, SavedState, record_of, body_lines, end_line, head_lines}
use Rattle.core_text.proofs.CommonWords.{slot_line, table_line, text_of_lines, version_line, V2}
use Rattle.core_text.proofs.Written.{body_length, more_lines, table_part}
use Rattle.core_text.proofs.writing.write_state.Goals as goal

pub returns : goal.returns
returns g c =
    let state : SavedState =
    record { fields = c.args.fields.now; table = c.args.table.now; records = map record_of c.args.slots.now } in
    let begun : c.put.new.text.items ≡ [] ++ text_of_lines (version_line V2 ∷ []) =
    c.in_ok-put.ensures ∙ ap (λ t. t ++ text_of_lines (version_line V2 ∷ [])) c.new-text.ensures.items in
    let body : c.put_slots.new.text.items ≡ text_of_lines (body_lines V2 state) =
    more_lines [] _ _ (version_line V2 ∷ (head_lines state.fields
    ++ (table_line (length state.table) ∷ map fields_written state.table))) (map (slot_line V2) state.records)
    (more_lines [] _ _ (version_line V2 ∷ head_lines state.fields)
    (table_line (length state.table) ∷ map fields_written state.table)
    (more_lines [] _ _ (version_line V2 ∷ []) (head_lines state.fields) begun c.in_ok-put_fields.ensures)
    (table_part _ _ (length state.table) state.table c.in_ok-put_table.ensures)) c.in_ok-put_slots.ensures in
    let count : 8 + c.len.result + length c.args.slots.now ≡ length (body_lines V2 state) =
    omega (arith, body_length V2 state, c.len.ensures.value, length-map c.args.slots.now record_of) in
    more_lines [] _ _ (body_lines V2 state) (end_line (length (body_lines V2 state)) ∷ []) body
    (c.in_ok-put_number_line.ensures ∙ ap (λ n. c.put_slots.new.text.items ++ text_of_lines (end_line n ∷ [])) count)
