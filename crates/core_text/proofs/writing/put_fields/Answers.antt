use Rattle.core_text.proofs.CommonWords.{[], ◌∷◌, clock_line, flags_line, generation_line, goal_line, stage_line}
use Rattle.core_text.proofs.CommonWords.{wish_line}
use Rattle.core_text.proofs.Written.{more_lines}
use Rattle.core_text.proofs.writing.put_fields.Goals as goal

pub returns : goal.returns
returns g c =
    let fields = c.args.fields.now in
    let gen = generation_line fields.generation in
    let clock = clock_line fields.time in
    let stage = stage_line fields.stage fields.grace in
    let aim = goal_line fields.goal in
    let flags = flags_line fields.booted fields.announced in
    let wish = wish_line fields.reread fields.reexec fields.level_wish fields.pending in
    more_lines _ _ _ (gen ∷ clock ∷ stage ∷ aim ∷ flags ∷ []) (wish ∷ [])
    (more_lines _ _ _ (gen ∷ clock ∷ stage ∷ aim ∷ []) (flags ∷ [])
    (more_lines _ _ _ (gen ∷ clock ∷ []) (stage ∷ aim ∷ [])
    (more_lines _ _ _ (gen ∷ []) (clock ∷ []) c.in_ok-put_number_line.ensures c.in_ok-put_number_line-2.ensures)
    c.in_ok-put_places.ensures) c.in_ok-put_flags.ensures) c.in_ok-put_wishes.ensures
