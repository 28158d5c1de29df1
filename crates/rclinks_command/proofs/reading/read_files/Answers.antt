use Rattle.rclinks_command.proofs.Words.{◌+◌, ◌∙◌, codes, inl, inr, ap, rules, sym, map, drop, take, map-append}
use Rattle.rclinks_command.proofs.Words.{take-append-drop}
use Rattle.rclinks_command.proofs.ReadingLemmas.{reads_next}
use Rattle.rclinks_command.proofs.ReportLemmas.{not_over, over_parts, tells_none, told_file, warned_on}
use Rattle.rclinks_command.proofs.reading.read_files.Goals as goal

pub loop-path-init : goal.loop-path-init
loop-path-init g c = record { read = search rules; told = λ _. (search rules, tells_none (codes "warning: ") _) }

pub returns-then-over-clause-read : goal.returns-then-over-clause-read
returns-then-over-clause-read g c =
    let files = c.args.line.now.files.now in
    let n = c.loop-path.path-index in
    let next = reads_next (g.T.Texts.text_at c.args.texts.now) files n _ c.loop-path.reading.scripts.items
    c.read_one.new.reading.scripts.items c.loop-path.faults.items c.read_one.new.faults.items c.loop-path-test.true
    c.loop-path.invariant.read c.in_ok-read_one.ensures.read in
    let parts = ap (map (λ file. file.now)) (sym (take-append-drop (n + 1) files))
    ∙ map-append (λ file. file.now) (take (n + 1) files) (drop (n + 1) files) in
    let over = over_parts c.keeps_going-keeps_going.result c.read_one.new.faults.items
    (sym (rw c.as_slice.ensures.value at c.is_over-over.ensures) ∙ c.if-over.true) in (
      map (λ file. file.now) (take (n + 1) files),
      map (λ file. file.now) (drop (n + 1) files),
      parts,
      next,
      inr (sym c.keeps_going-keeps_going.ensures ∙ over.0, over.1),
    )

pub returns-then-over-clause-told : goal.returns-then-over-clause-told
returns-then-over-clause-told g c = λ plain.
    let over = over_parts c.keeps_going-keeps_going.result c.read_one.new.faults.items
    (sym (rw c.as_slice.ensures.value at c.is_over-over.ensures) ∙ c.if-over.true) in
    told_file (g.T.Texts.text_at c.args.texts.now) c.args.line.now.files.now c.loop-path.path-index _
    c.loop-path.reading.scripts.items c.loop-path.faults.items c.read_one.new.faults.items _ _ _
    c.loop-path-test.true c.loop-path.invariant.read
    (c.loop-path.invariant.told (c.keeps_going-keeps_going.ensures ∙ plain)) c.in_ok-read_one.ensures.told over.1

pub loop-path-preserved : goal.loop-path-preserved
loop-path-preserved g c =
    let text_at = g.T.Texts.text_at c.args.texts.now in
    let none = not_over c.keeps_going-keeps_going.result c.read_one.new.faults.items
    (sym (rw c.as_slice.ensures.value at c.is_over-over.ensures) ∙ c.if-over.false) in
    record {
      read = reads_next text_at c.args.line.now.files.now c.loop-path.path-index _ c.loop-path.reading.scripts.items
          c.read_one.new.reading.scripts.items c.loop-path.faults.items c.read_one.new.faults.items
          c.loop-path-test.true
          c.loop-path.invariant.read c.in_ok-read_one.ensures.read;
      told = λ plain. warned_on text_at _ c.loop-path.faults.items c.read_one.new.faults.items _ _ _
          (c.loop-path.invariant.told plain) c.in_ok-read_one.ensures.told (none plain);
    }

pub returns-clause-told : goal.returns-clause-told
returns-clause-told g c = λ plain. inl (c.loop-path.invariant.told (c.keeps_going-keeps_going.ensures ∙ plain))
