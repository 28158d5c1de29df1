use Rattle.inittab_text.proofs.Words.{◌≡◌, ◌≤◌, ◌∙◌, ◌+◌, ap, sym, subst, arith, [], ◌++◌, length, drop, append-nil}
use Rattle.inittab_text.proofs.Words.{at_drop_all, table_of_text, faults_of_text, line_of, text_of, TEXT_LIMIT}
use Rattle.std.proofs.lemmas.List.{append_assoc}
use Rattle.inittab_text.proofs.Entries.{text_of-drop}
use Rattle.inittab_text.proofs.SizeLemmas.{text_short}
use Rattle.inittab_text.proofs.WriteLemmas.{entries_from-text, faults_from-text}
use Rattle.inittab_text.proofs.writing.write.Goals as goal

pub loop-position-preserved : goal.loop-position-preserved
loop-position-preserved g c =
    let before = c.loop-position.text.items in
    let line = line_of c.entry.result.now in
    let rest = text_of (drop (c.loop-position.position + 1) c.args.table.now) in
    ap (λ t. t ++ rest) c.in_ok-write_line.ensures.ok ∙ append_assoc before line rest
    ∙ ap (λ t. before ++ t) (sym (text_of-drop c.args.table.now c.loop-position.position c.entry.result.now
    c.entry.ensures)) ∙ c.loop-position.invariant

pub returns-clause-table : goal.returns-clause-table
returns-clause-table g c =
    let table = c.args.table.now in
    let none : text_of (drop c.loop-position.position table) ≡ [] =
    at_drop_all text_of table c.loop-position.position (omega arith) in
    let all = sym (append-nil c.loop-position.text.items) ∙ ap (λ t. c.loop-position.text.items ++ t) (sym none)
    ∙ c.loop-position.invariant in
    ap table_of_text all ∙ entries_from-text table [] c.len-position-end.ensures.table

pub returns-clause-no_faults : goal.returns-clause-no_faults
returns-clause-no_faults g c =
    let table = c.args.table.now in
    let none : text_of (drop c.loop-position.position table) ≡ [] =
    at_drop_all text_of table c.loop-position.position (omega arith) in
    let all = sym (append-nil c.loop-position.text.items) ∙ ap (λ t. c.loop-position.text.items ++ t) (sym none)
    ∙ c.loop-position.invariant in
    ap faults_of_text all ∙ faults_from-text table [] 1 c.len-position-end.ensures.table

pub returns-clause-short : goal.returns-clause-short
returns-clause-short g c =
    let table = c.args.table.now in
    let none : text_of (drop c.loop-position.position table) ≡ [] =
    at_drop_all text_of table c.loop-position.position (omega arith) in
    let all = sym (append-nil c.loop-position.text.items) ∙ ap (λ t. c.loop-position.text.items ++ t) (sym none)
    ∙ c.loop-position.invariant in
    subst (λ t. length t ≤ TEXT_LIMIT) (sym all) (text_short table c.len-position-end.ensures.table)
