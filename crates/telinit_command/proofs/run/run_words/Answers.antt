use Rattle.std.proofs.Common.{◌∙◌, ◌⊎◌, inl, inr}
use Rattle.telinit_command.proofs.run.run_words.Goals as goal

pub returns-in-Ok-append_block-clause-told : goal.returns-in-Ok-append_block-clause-told
returns-in-Ok-append_block-clause-told g c = λ done.
    let asked = c.in-Ok.ensures.ok in
    inr (rw asked.1 (rw (c.as_str-path.ensures.value ∙ asked.2) at c.in-Ok-append_block.ensures.told))

pub returns-in-Ok-append_block-clause-appended : goal.returns-in-Ok-append_block-clause-appended
returns-in-Ok-append_block-clause-appended g c = λ done _.
    let asked = c.in-Ok.ensures.ok in (
      _,
      _,
      (_, asked.1, c.as_str-path.ensures.value ∙ asked.2, asked.3),
      c.in-Ok-append_block.ensures.whole,
      c.in-Ok-append_block.ensures.gained,
    )

right : {A B C : Type 0} → (B → C) → A ⊎ B → A ⊎ C
right f (inl a) = inl a
right f (inr b) = inr (f b)

pub returns-in-Ok-clause-unappended : goal.returns-in-Ok-clause-unappended
returns-in-Ok-clause-unappended g c = λ failed.
    let asked = c.in-Ok.ensures.ok in
    right (λ front. (_, _, (_, asked.1, c.as_str-path.ensures.value ∙ asked.2, asked.3), front))
    c.in-Err-append_block.ensures.refused
