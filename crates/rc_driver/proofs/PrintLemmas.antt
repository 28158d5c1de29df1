-- Lemmas on composing a dry run from its lines.
use Rattle.rc_driver.proofs.Words.{◌≡◌, ◌≢◌, ◌⊎◌, refl, sym, ◌∙◌, subst, inl, inr, ℕ, true, false, List, [], ◌∷◌, ◌++◌}
use Rattle.rc_driver.proofs.Words.{codes, Option, Result, Ok, Err, OnOk, IfErr, Appends, Appends-nil, Appends-trans}
use Rattle.rc_driver.proofs.Words.{true≢false, AppendsPrefix, AppendsPrefix-first, AppendsPrefix-then, RunEnd}
use Rattle.rc_driver.proofs.Words.{ScriptOptions, PrintStops, Printed, PrintsLinks, command_line, command_lines}
use Rattle.rc_driver.proofs.Words.{command_text, LinkRun, RcState}
use Rattle.rc_driver.specs.declared.driving.RunEnd.TheVariants as run_end
use Rattle.rc_driver.proofs.RunLemmas.{AppendsPrefix-none}

write_is_not_done : run_end.Write ≢ run_end.Done
write_is_not_done = λ is. cc

memory_is_not_done : run_end.Memory ≢ run_end.Done
memory_is_not_done = λ is. cc

waiting_is_not_done : run_end.Waiting ≢ run_end.Done
waiting_is_not_done = λ is. cc

-- a dry run without remaining scripts is complete
pub prints_done : (way : ScriptOptions) (dir : List ℕ) (rc new : RcState) (bytes : Option (List ℕ))
    → (rc.waits ≡ false) × (rc.remaining ≡ []) × (new ≡ rc) → PrintsLinks way dir rc bytes run_end.Done new bytes
prints_done way dir rc new bytes (ready, none, same) =
    subst (λ r. PrintsLinks way dir rc bytes run_end.Done r bytes) (sym same) (record {
      part = AppendsPrefix-none bytes (command_lines way dir rc.remaining);
      whole =
          λ is. (
            subst (λ remaining. Appends bytes bytes (command_lines way dir remaining)) (sym none) (Appends-nil bytes),
            none,
            ready,
          );
      waits = λ is. absurd (true≢false (sym is ∙ ready));
      ends = λ is. inl refl;
    })

-- a dry run in which an answer is missing prints nothing
pub prints_waiting : (way : ScriptOptions) (dir : List ℕ) (rc new : RcState) (bytes : Option (List ℕ))
    → (rc.waits ≡ true) × (new ≡ rc) → PrintsLinks way dir rc bytes run_end.Waiting new bytes
prints_waiting way dir rc new bytes (waiting, same) = record {
  part = AppendsPrefix-none bytes (command_lines way dir rc.remaining);
  whole = λ is. absurd (waiting_is_not_done is);
  waits = λ is. (refl, same, refl);
  ends = λ ready. absurd (true≢false (sym waiting ∙ ready));
}

-- a dry run that ends at its first script
stops_by : (way : ScriptOptions) (dir : List ℕ) (old new : RcState) (before after : Option (List ℕ)) (ended : RunEnd)
    (s : LinkRun) → old.waits ≡ false
    → old.remaining ≡ s ∷ new.remaining → AppendsPrefix before after (command_line way dir s) → ended ≢ run_end.Done
    → (ended ≡ run_end.Done) ⊎ (ended ≡ run_end.Write) ⊎ (ended ≡ run_end.Memory)
    → PrintsLinks way dir old before ended new after
stops_by way dir old new before after ended s ready head part other ends = record {
  part = subst (λ remaining. AppendsPrefix before after (command_lines way dir remaining)) (sym head)
      (AppendsPrefix-first before after (command_line way dir s) (command_lines way dir new.remaining) part);
  whole = λ is. absurd (other is);
  waits = λ is. absurd (true≢false (sym is ∙ ready));
  ends = λ is. ends;
}

pub prints_stops : (way : ScriptOptions) (dir : List ℕ) (old new : RcState) (before after : Option (List ℕ))
    (ended : RunEnd) (s : LinkRun) → old.waits ≡ false
    → old.remaining ≡ s ∷ new.remaining → PrintStops ended way dir s before after
    → PrintsLinks way dir old before ended new after
prints_stops way dir old new before after run_end.Write s ready head part =
    stops_by way dir old new before after run_end.Write s ready head part write_is_not_done (inr (inl refl))
prints_stops way dir old new before after run_end.Memory s ready head same =
    stops_by way dir old new before after run_end.Memory s ready head
    (subst (λ b. AppendsPrefix before b (command_line way dir s)) (sym same)
    (AppendsPrefix-none before (command_line way dir s)))
    memory_is_not_done (inr (inr refl))
prints_stops way dir old new before after (run_end.Limit link) s ready head at = absurd at
prints_stops way dir old new before after run_end.Done s ready head at = absurd at
prints_stops way dir old new before after run_end.Failed s ready head at = absurd at
prints_stops way dir old new before after run_end.Waiting s ready head at = absurd at

-- the line with the command that would start it
pub line_written : {T : Type 0} (told : Result T RunEnd) (way : ScriptOptions) (dir : List ℕ) (s : LinkRun)
    (text : List ℕ) (before after : Option (List ℕ))
    → text ≡ command_text way dir s → OnOk told (Appends before after (text ++ codes "\n"))
    → OnOk told (Appends before after (command_line way dir s))
line_written (Ok value) way dir s text before after same line =
    subst (λ t. Appends before after (t ++ codes "\n")) same line
line_written (Err ended) way dir s text before after same line = tt

pub line_stopped : {T : Type 0} (told : Result T RunEnd) (way : ScriptOptions) (dir : List ℕ) (s : LinkRun)
    (text : List ℕ) (before after : Option (List ℕ))
    → text ≡ command_text way dir s
    → IfErr told (λ ended. (ended ≡ run_end.Write) × AppendsPrefix before after (text ++ codes "\n"))
    → IfErr told (λ ended. PrintStops ended way dir s before after)
line_stopped (Ok value) way dir s text before after same part = tt
line_stopped (Err ended) way dir s text before after same (is, part) =
    subst (λ e. PrintStops e way dir s before after) (sym is)
    (subst (λ t. AppendsPrefix before after (t ++ codes "\n")) same part)

-- a script that was printed
pub printed_by : (way : ScriptOptions) (dir : List ℕ) (old mid new : RcState) (before after : Option (List ℕ))
    (s : LinkRun) → old.waits ≡ false
    → old.remaining ≡ s ∷ mid.remaining → new ≡ record mid { waits = false }
    → Appends before after (command_line way dir s) → Printed way dir old before new after
printed_by way dir old mid new before after s ready head is line =
    subst (λ (r : RcState). Printed way dir old before r after) (sym is) (s, ready, head, refl, line)

-- a script, and the dry run after it
pub prints_more : (way : ScriptOptions) (dir : List ℕ) (old mid new : RcState) (before between after : Option (List ℕ))
    (ended : RunEnd)
    → Printed way dir old before mid between → PrintsLinks way dir mid between ended new after
    → PrintsLinks way dir old before ended new after
prints_more way dir old mid new before between after ended (s, ready, head, answered, line) went = record {
  part = subst (λ remaining. AppendsPrefix before after (command_lines way dir remaining)) (sym head)
      (AppendsPrefix-then before between after (command_line way dir s)
      (command_lines way dir mid.remaining) line went.part);
  whole = λ is. let rest = went.whole is in (
    subst (λ remaining. Appends before after (command_lines way dir remaining)) (sym head)
        (Appends-trans before between after (command_line way dir s) (command_lines way dir mid.remaining) line rest.0),
    rest.1,
    rest.2,
  );
  waits = λ is. absurd (true≢false (sym is ∙ ready));
  ends = λ is. went.ends answered;
}
