use Rattle.core_text.proofs.CommonWords.{◌++◌, ap, ◌∙◌}
use Rattle.core_text.proofs.Written.{slot_words}
use Rattle.core_text.proofs.writing.put_slot.Goals as goal

pub returns : goal.returns
returns g c =
    let id = c.in_ok-put-2.ensures ∙ ap (λ t. c.put.new.text.items ++ t) c.as_bytes.ensures.value in
    slot_words _ _ _ _ _ _ _ _ _ _ _ c.in_ok-put.ensures id c.in_ok-put_life.ensures c.in_ok-put_limits.ensures
    c.in_ok-push.ensures.items
