-- The run over a whole script, one happening at a time.
use Rattle.simulator.proofs.Words.{Bool, true, ◌≡◌, ◌≢◌, ◌++◌, ◌+◌, ℕ, List, [], ◌∷◌, Option, refl, sym, ap, ◌∙◌, subst}
use Rattle.simulator.proofs.Words.{append_assoc, ◌⊎◌, inl, inr, Appends, Keeps, Appends-kept, Appends-trans, append-nil}
use Rattle.simulator.proofs.Words.{Entry, table_of_text, NewTable, Goal, Event, event_text, is_in_range, are_in_range}
use Rattle.simulator.proofs.Words.{line_count, BeginsNone, counted_on, newlines, is_run, CoreState}
use Rattle.simulator.proofs.Words.{FitsWithLastStatuses}
use Rattle.simulator.proofs.Words.{SystemState, Follows, SimFault, Leaves, CanHandOver, Moment, SimulationGoesOn}
use Rattle.simulator.proofs.Words.{HearsLine}
use Rattle.simulator.proofs.Words.{ComesToRest, Breaks, FromRest, HeardOne, HeardBreaks, HeardEnds, SoFar, opening_text}
use Rattle.simulator.proofs.Words.{Scenario, table_in, goal_in, script_in, past_text, heard_text, RunOver, Broken, Ends}
use Rattle.simulator.proofs.Words.{Done}
use Rattle.std.proofs.Common.{Result, Ok, Err}
use Rattle.inittab_text.proofs.Distinct.{distinct_text}
use Rattle.simulator.specs.declared.running.SimFault.TheVariants as fault
use Rattle.simulator.proofs.Opening.{OpeningEnds}
use Rattle.simulator.proofs.Moves.{leaves_behind, memory_after}

-- the trace that has only the table
abbrev opening : Scenario → List Event
opening s = NewTable (table_in s) ∷ []

-- the text of the table
table_text : (table : List Entry) → past_text (NewTable table ∷ []) ≡ event_text (NewTable table)
table_text table = append-nil (event_text (NewTable table))

pub first_moment : (inittab : List ℕ) (goal : Goal) (core : CoreState) (side : SystemState)
    → FitsWithLastStatuses core goal (NewTable (table_of_text inittab) ∷ [])
    → CanHandOver core goal (NewTable (table_of_text inittab) ∷ [])
    → Follows side (NewTable (table_of_text inittab) ∷ [])
    → Moment goal (NewTable (table_of_text inittab) ∷ []) core side
first_moment inittab goal core side fits lasts follows =
    record { runs = distinct_text inittab; fits = fits; lasts = lasts; follows = follows }

first_run : (s : Scenario) → RunOver s (script_in s) (opening s)
first_run s = record { runs = distinct_text s.inittab; handed = refl; opens = refl; are = refl; hears = refl }

-- no line of the script was read yet, and init continued
run_first : (s : Scenario) (next : List Event) (more : List ℕ) → is_run (goal_in s) next ≡ true
    → SimulationGoesOn (opening s) next more → RunOver s (script_in s) next
run_first s next more runs goes = record {
  runs = runs;
  handed = goes.handed (goal_in s);
  opens = goes.opens;
  are = ap are_in_range goes.hears;
  hears = ap (λ es. past_text es ++ script_in s) goes.hears;
}

-- the run before the first line of the script
pub so_far_first : (s : Scenario) (rereads : Bool) (core : CoreState) (side : SystemState)
    (old mid new : Option (List ℕ)) → Appends old mid (opening_text s.inittab)
    → ComesToRest (goal_in s) (NewTable (table_in s) ∷ []) rereads core side mid new
    → SoFar s (script_in s) 1 rereads core side old new
so_far_first s rereads core side old mid new before (next, more, at, goes, written) = record {
  past = next;
  counted = ap (λ es. newlines (past_text es) + 1) (sym goes.hears);
  at = at;
  run = run_first s next more at.moment.runs goes;
  written = subst (Appends old new) (sym (goes.text ∙ ap (λ t. t ++ more) (table_text (table_in s))))
      (Appends-trans old mid new (opening_text s.inittab) more before written);
}

-- no line of the script was read yet, and what followed was being written
pub broken_first : (s : Scenario) (f : SimFault) (old mid new : Option (List ℕ))
    → Appends old mid (opening_text s.inittab)
    → Breaks (goal_in s) (NewTable (table_in s) ∷ []) f mid new → Broken s f old new
broken_first s f old mid new before (next, more, runs, goes, leaves) = (
  script_in s,
  next,
  run_first s next more runs goes,
  subst (Leaves f old new) (sym (goes.text ∙ ap (λ t. t ++ more) (table_text (table_in s))))
      (leaves_behind f old mid new (opening_text s.inittab) more before leaves),
)

-- the table was being written
broken_opening : (s : Scenario) (f : SimFault) (old new : Option (List ℕ)) → Leaves f old new (opening_text s.inittab)
    → Broken s f old new
broken_opening s f old new leaves =
    (script_in s, opening s, first_run s, subst (Leaves f old new) (sym (table_text (table_in s))) leaves)

pub opening_ends : (s : Scenario) (f : SimFault) (old new : Option (List ℕ)) → OpeningEnds s.inittab f old new
    → Ends s f old new
opening_ends s fault.Table old new ends = ends
opening_ends s (fault.Script n) old new ends = absurd ends
opening_ends s (fault.Forbidden n why) old new ends = absurd ends
opening_ends s fault.Write old new ends = broken_opening s fault.Write old new ends
opening_ends s fault.Memory old new ends = broken_opening s fault.Memory old new ends

-- a fault while the text of the run was written ends the run
pub broken_ends : (s : Scenario) (f : SimFault) (old new : Option (List ℕ)) → Broken s f old new → Ends s f old new
broken_ends s fault.Table old new (rest, past, run, leaves) = absurd leaves
broken_ends s (fault.Script n) old new (rest, past, run, leaves) = absurd leaves
broken_ends s (fault.Forbidden n why) old new (rest, past, run, leaves) = absurd leaves
broken_ends s fault.Write old new broken = broken
broken_ends s fault.Memory old new broken = broken

-- the run over one more happening of the script
run_more : (s : Scenario) (rest behind : List ℕ) (past next : List Event) (happening : Event) (more : List ℕ)
    → RunOver s rest past → is_run (goal_in s) next ≡ true
    → event_text happening ++ behind ≡ rest → HearsLine (goal_in s) past next (event_text happening) more
    → RunOver s behind next
run_more s rest behind past next happening more run runs begins hears = record {
  runs = runs;
  handed = hears.handed run.handed;
  opens = hears.opens ∙ run.opens;
  are = hears.are run.are;
  hears = ap (λ t. t ++ behind) hears.hears ∙ append_assoc (heard_text past) (event_text happening) behind
      ∙ ap (λ t. heard_text past ++ t) begins ∙ run.hears;
}

-- one more happening
pub so_far_next : (s : Scenario) (rest behind : List ℕ) (happening : Event) (number : ℕ) (rereads then_rereads : Bool)
    (core new_core : CoreState) (side new_side : SystemState) (old mid new : Option (List ℕ))
    → SoFar s rest number rereads core side old mid → is_in_range happening ≡ true
    → event_text happening ++ behind ≡ rest
    → FromRest rereads core side (λ goal past. HeardOne goal past happening then_rereads new_core new_side mid new)
    → SoFar s behind (number + line_count happening) then_rereads new_core new_side old new
so_far_next s rest behind happening number rereads then_rereads core new_core side new_side old mid new so_far ranged
    begins done =
    let (next, more, at, hears, written) = done (goal_in s) so_far.past so_far.at in
    record {
      past = next;
      counted = (counted_on (heard_text so_far.past) behind rest (script_in s) happening number ranged begins
          so_far.run.hears so_far.counted).0 ∙ ap (λ t. newlines t + 1) (sym hears.hears);
      at = at;
      run = run_more s rest behind so_far.past next happening more so_far.run at.moment.runs begins hears;
      written = subst (Appends old new) (sym hears.text)
          (Appends-trans old mid new (past_text so_far.past) more so_far.written written);
    }

broken_at : (s : Scenario) (rest behind : List ℕ) (happening : Event) (number : ℕ) (rereads : Bool) (core : CoreState)
    (side : SystemState) (f : SimFault) (old mid new : Option (List ℕ))
    → (so_far : SoFar s rest number rereads core side old mid) → event_text happening ++ behind ≡ rest
    → HeardBreaks (goal_in s) so_far.past happening f mid new → Broken s f old new
broken_at s rest behind happening number rereads core side f old mid new so_far begins
    (next, more, runs, hears, leaves) = (
      behind,
      next,
      run_more s rest behind so_far.past next happening more so_far.run runs begins hears,
      subst (Leaves f old new) (sym hears.text)
          (leaves_behind f old mid new (past_text so_far.past) more so_far.written leaves),
    )

-- how a happening of the script ends the run
pub heard_ends : (s : Scenario) (rest behind : List ℕ) (happening : Event) (number : ℕ) (rereads : Bool)
    (core : CoreState) (side : SystemState) (f : SimFault) (old mid new : Option (List ℕ))
    → SoFar s rest number rereads core side old mid → is_in_range happening ≡ true
    → event_text happening ++ behind ≡ rest
    → FromRest rereads core side (λ goal past. HeardEnds goal past happening number f mid new) → Ends s f old new
heard_ends s rest behind happening number rereads core side fault.Table old mid new so_far ranged begins ends =
    absurd (ends (goal_in s) so_far.past so_far.at)
heard_ends s rest behind happening number rereads core side (fault.Script n) old mid new so_far ranged begins ends =
    absurd (ends (goal_in s) so_far.past so_far.at)
heard_ends s rest behind happening number rereads core side
    (fault.Forbidden n why) old mid new so_far ranged begins ends =
    let (is, may_not, why_not, none) = ends (goal_in s) so_far.past so_far.at in (
      rest,
      so_far.past,
      is ∙ so_far.counted,
      record { run = so_far.run; rests = so_far.at.rests },
      Appends-kept old mid new (past_text so_far.past) so_far.written none,
      (happening, behind, ranged, begins, may_not, why_not),
    )
heard_ends s rest behind happening number rereads core side fault.Write old mid new so_far ranged begins ends =
    broken_at s rest behind happening number rereads core side fault.Write old mid new so_far begins
    (ends (goal_in s) so_far.past so_far.at)
heard_ends s rest behind happening number rereads core side fault.Memory old mid new so_far ranged begins ends =
    by (ends (goal_in s) so_far.past so_far.at)
  where
    by : Keeps mid new ⊎ HeardBreaks (goal_in s) so_far.past happening fault.Memory mid new
        → Broken s fault.Memory old new
    by (inl kept) = (
      rest,
      so_far.past,
      so_far.run,
      memory_after old new (past_text so_far.past)
          (Appends-kept old mid new (past_text so_far.past) so_far.written kept),
    )
    by (inr breaks) =
        broken_at s rest behind happening number rereads core side fault.Memory old mid new so_far begins breaks

-- no happening begins the rest of the script
pub unread_ends : (s : Scenario) (rest : List ℕ) (number : ℕ) (rereads : Bool) (core : CoreState) (side : SystemState)
    (old new : Option (List ℕ)) → SoFar s rest number rereads core side old new → rest ≢ [] → BeginsNone rest
    → Ends s (fault.Script number) old new
unread_ends s rest number rereads core side old new so_far some none = (
  rest,
  so_far.past,
  so_far.counted,
  record { run = so_far.run; rests = so_far.at.rests },
  so_far.written,
  (some, none),
)

-- memory allocation failed before the rest of the script
pub memory_ends : (s : Scenario) (rest : List ℕ) (number : ℕ) (rereads : Bool) (core : CoreState) (side : SystemState)
    (old new : Option (List ℕ)) → SoFar s rest number rereads core side old new → Ends s fault.Memory old new
memory_ends s rest number rereads core side old new so_far =
    (rest, so_far.past, so_far.run, memory_after old new (past_text so_far.past) so_far.written)

-- the end of the script was reached
pub all_done : (s : Scenario) (rest : List ℕ) (number : ℕ) (rereads : Bool) (core : CoreState) (side : SystemState)
    (old new : Option (List ℕ)) → SoFar s rest number rereads core side old new → rest ≡ [] → Done s old new
all_done s rest number rereads core side old new so_far empty = (
  so_far.past,
  record { run = subst (λ r. RunOver s r so_far.past) empty so_far.run; rests = so_far.at.rests },
  so_far.written,
)

pub same_fault : {S E : Type 0} (r : Result S E) (a b : E) → r ≡ Err a → r ≡ Err b → a ≡ b
same_fault (Ok s) a b ha hb = cc
same_fault (Err e) a b ha hb = let one : e ≡ a = cc in let two : e ≡ b = cc in sym one ∙ two
