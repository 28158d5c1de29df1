-- How writing kept bytes to the files, and adding the text of a happening, changes what a log over files took.
use Rattle.std.proofs.Common.{◌≡◌, refl, sym, ap, ◌∙◌, subst, ◌⊎◌, inl, inr, ℕ, Bool, true, false, ◌&&◌, List, [], ◌∷◌}
use Rattle.std.proofs.Common.{◌++◌, append-nil, append_assoc, Option, Some, None, Result, Ok, Err, OnOk}
use Rattle.std.proofs.lemmas.List.Folds.{list_all-append}
use Rattle.std.proofs.lemmas.Bool.{and_from}
use Rattle.std.proofs.KnownBytes.{Keeps-refl}
use Rattle.std.specs.List.{list_all}
use Rattle.std.specs.Io.KnownBytes.{Appends, Keeps, append_known}
use Rattle.trace_events.specs.Event.{Event}
use Rattle.trace_events.specs.Range.{is_in_range}
use Rattle.trace_text.specs.Lines.{event_text, trace_text}
use Rattle.trace_text.proofs.ReadTexts.{trace_text-push, are_in_range-push}
use Rattle.trace_log.specs.Logs.{AcceptsHappening}
use Rattle.supervisor.specs.Crashes.{is_of_idle_look}
use Rattle.trace_files.specs.Filed.{AddsHappening, Filed, HasText, HoldsLook, FilesUnchanged, KnowsText, LacksLooks}
use Rattle.trace_files.specs.Filed.{MayFlush, Flushes}
use Rattle.trace_files.specs.Filed.{filed_state}

-- files that have the whole text lack nothing
lacks_none : (trace : List Event) (bytes unwritten : List ℕ) → bytes ++ unwritten ≡ trace_text trace → unwritten ≡ []
    → LacksLooks trace bytes unwritten
lacks_none trace bytes unwritten whole none = record {
  written = trace;
  held = [];
  all = append-nil trace;
  of_files = sym whole ∙ ap (λ text. bytes ++ text) none ∙ append-nil bytes;
  of_unwritten = sym none;
  idle = refl;
}

-- one more happening of a look that found nothing is kept
lacks_more : (trace : List Event) (bytes unwritten : List ℕ) (h : Event) → is_of_idle_look h ≡ true
    → LacksLooks trace bytes unwritten → LacksLooks (trace ++ h ∷ []) bytes (unwritten ++ event_text h)
lacks_more trace bytes unwritten h idle lacks = record {
  written = lacks.written;
  held = lacks.held ++ h ∷ [];
  all = sym (append_assoc lacks.written lacks.held (h ∷ [])) ∙ ap (λ all. all ++ h ∷ []) lacks.all;
  of_files = lacks.of_files;
  of_unwritten = trace_text-push lacks.held h ∙ ap (λ text. text ++ event_text h) lacks.of_unwritten;
  idle = list_all-append is_of_idle_look lacks.held (h ∷ []) ∙ and_from (list_all is_of_idle_look lacks.held)
      (is_of_idle_look h && true) lacks.idle (and_from (is_of_idle_look h) true idle refl);
}

moved : (old new : Option (List ℕ)) (before after : Bool) (unwritten rest : List ℕ) (trace : List Event)
    → Keeps (append_known old unwritten) (append_known new rest)
    → (after ≡ false → rest ≡ []) → KnowsText before trace old unwritten → KnowsText after trace new rest
moved None new before after unwritten rest trace same empties has = absurd has
moved (Some xs) None before after unwritten rest trace same empties has = absurd same
moved (Some xs) (Some ys) before after unwritten rest trace same empties has = record {
  ranged = has.ranged;
  whole = same ∙ has.whole;
  lacks = λ works. lacks_none trace ys rest (same ∙ has.whole) (empties works);
}

stood : (old new : Option (List ℕ)) (refused : Bool) (unwritten : List ℕ) (trace : List Event) → Keeps old new
    → KnowsText refused trace old unwritten → KnowsText refused trace new unwritten
stood None new refused unwritten trace same has = absurd has
stood (Some xs) None refused unwritten trace same has = absurd same
stood (Some xs) (Some ys) refused unwritten trace same has =
    subst (λ bytes. HasText refused trace bytes unwritten) (sym same) has

added : (old new : Option (List ℕ)) (before after : Bool) (unwritten rest : List ℕ) (h : Event) (trace : List Event)
    → is_in_range h ≡ true → Appends (append_known old unwritten) (append_known new rest) (event_text h)
    → (after ≡ false
    → (rest ≡ [])
    ⊎ (Keeps old new × (is_of_idle_look h ≡ true) × (rest ≡ unwritten ++ event_text h) × (after ≡ before)))
    → KnowsText before trace old unwritten → KnowsText after (trace ++ h ∷ []) new rest
added None new before after unwritten rest h trace ranged grown held has = absurd has
added (Some xs) None before after unwritten rest h trace ranged grown held has = absurd grown
added (Some xs) (Some ys) before after unwritten rest h trace ranged grown held has = record {
  ranged = are_in_range-push trace h has.ranged ranged;
  whole = whole;
  lacks = λ works. by works (held works);
}
  where
    whole : ys ++ rest ≡ trace_text (trace ++ h ∷ [])
    whole = grown ∙ ap (λ text. text ++ event_text h) has.whole ∙ sym (trace_text-push trace h)

    by : after ≡ false → (rest ≡ []) ⊎ ((ys ≡ xs) × (is_of_idle_look h ≡ true) × (rest ≡ unwritten ++ event_text h)
        × (after ≡ before)) → LacksLooks (trace ++ h ∷ []) ys rest
    by works (inl none) = lacks_none (trace ++ h ∷ []) ys rest whole none
    by works (inr (same, idle, text, is)) =
        subst (λ bytes. LacksLooks (trace ++ h ∷ []) bytes rest) (sym same)
        (subst (λ unwritten. LacksLooks (trace ++ h ∷ []) xs unwritten) (sym text)
        (lacks_more trace xs unwritten h idle (has.lacks (sym is ∙ works))))

module _ {S : Type 0} (contents : S → Option (List ℕ)) where
  abbrev Knows : Filed S → List Event → Type 0
  Knows log trace = KnowsText log.refused trace (contents log.files) log.unwritten

  knows_moved : (old new : Filed S) (trace : List Event) → Flushes contents old new → Knows old trace → Knows new trace
  knows_moved old new trace moves = moved (contents old.files)
      (contents new.files) old.refused new.refused old.unwritten new.unwritten trace moves.all moves.empties

  knows_still : (old new : Filed S) (trace : List Event) → FilesUnchanged contents old new → Knows old trace
      → Knows new trace
  knows_still old new trace still has =
      subst (λ unwritten. KnowsText new.refused trace (contents new.files) unwritten) (sym still.unwritten)
      (subst (λ refused. KnowsText refused trace (contents new.files) old.unwritten) (sym still.refused)
      (stood (contents old.files) (contents new.files) old.refused old.unwritten trace still.files has))

  knows_may : (old new : Filed S) (trace : List Event) → MayFlush contents old new → Knows old trace → Knows new trace
  knows_may old new trace (inl moves) = knows_moved old new trace moves
  knows_may old new trace (inr still) = knows_still old new trace still

  knows_added : (old new : Filed S) (h : Event) (trace : List Event) → is_in_range h ≡ true
      → AddsHappening contents old new h → Knows old trace → Knows new (trace ++ h ∷ [])
  knows_added old new h trace ranged adds =
      added (contents old.files)
      (contents new.files) old.refused new.refused old.unwritten new.unwritten h trace ranged adds.all
      (λ works. by (adds.held works))
    where
      by : (new.unwritten ≡ []) ⊎ HoldsLook contents old new h
          → (new.unwritten ≡ []) ⊎ (Keeps (contents old.files) (contents new.files) × (is_of_idle_look h ≡ true)
          × (new.unwritten ≡ old.unwritten ++ event_text h) × (new.refused ≡ old.refused))
      by (inl none) = inl none
      by (inr holds) = inr (holds.files, holds.idle, holds.unwritten, holds.refused)

  -- A happening that was taken, or not.

  abbrev Written : Filed S → Filed S → Event → Type 0
  Written old new h = (mid : Filed S) × (more : Filed S) × MayFlush contents old mid × AddsHappening contents mid more h
      × FilesUnchanged contents more new

  -- the log is as it was after writing, except for the flag that it has failed
  pub taken_ok : {X E : Type 0} (result : Result X E) (old new log : Filed S) (h : Event) (failed : Bool) → log ≡ new
      → OnOk result (Written old new h)
      → OnOk result (is_in_range h ≡ true
      → AcceptsHappening (filed_state contents old) (filed_state contents (record log { failed = failed })) h)
  taken_ok (Ok x) old new log h failed is (mid, more, moves, adds, still) = λ ranged trace has.
      subst (λ log. Knows log (trace ++ h ∷ [])) (sym is)
      (knows_still more new (trace ++ h ∷ []) still
      (knows_added mid more h trace ranged adds (knows_may old mid trace moves has)))
  taken_ok (Err e) old new log h failed is written = tt

  pub still_refl : (log : Filed S) → FilesUnchanged contents log log
  still_refl log = record { files = Keeps-refl (contents log.files); unwritten = refl; refused = refl; failed = refl }

  -- a happening was added after kept bytes may have been written, and then only warnings were printed
  pub written_so : (old mid more last new : Filed S) (h : Event) → MayFlush contents old mid
      → AddsHappening contents mid more h → last ≡ more → FilesUnchanged contents last new → Written old new h
  written_so old mid more last new h moves adds is still =
      (mid, more, moves, adds, subst (λ log. FilesUnchanged contents log new) is still)
