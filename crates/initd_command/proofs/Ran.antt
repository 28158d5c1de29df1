-- Which calls a run made, by how it ended: none, unless it came to its turns.
use Rattle.initd_command.proofs.Words.{◌≡◌, refl, sym, subst, ℕ, Bool, true, false, is_some, List, [], ◌∷◌, ◌++◌}
use Rattle.initd_command.proofs.Words.{Option, Some, None, ⊤, Entry, KnownTexts, Event, LogState, HostCall}
use Rattle.initd_command.proofs.Words.{NewCallsSatisfy, InitdArguments, judges, runs, simulates, version, RunArguments}
use Rattle.initd_command.proofs.Words.{IsStartOver}
use Rattle.initd_command.proofs.Words.{StartState, RunRemarks, refused, turned, End, HasInittab, TakesParts}
use Rattle.initd_command.proofs.Words.{has_no_level}
use Rattle.initd_command.proofs.Words.{table_in, told_of, CommandLineAsks, MakesLogged, MakesTraced, LogEnds, RanBy}
use Rattle.initd_command.proofs.Words.{RunRecord}
use Rattle.initd_command.proofs.Words.{HasSettings, HostSettings}
use Rattle.std.proofs.Common.{true≢false, ◌∙◌}
use Rattle.std.proofs.lemmas.Option.{none-some}
use Rattle.std.specs.Prelude.{IfSome}
use Rattle.trace_files.specs.Filed.{KnowsEnd}
use Rattle.trace_log_wrappers.specs.Keeping.{EndsBrief, brief_first}
use Rattle.initd_command.specs.Ran.{IsWritten, MakesTurns}
use Rattle.initd_command.specs.Services.{EndsTold}
use Rattle.initd_command.specs.declared.run.Obstacle.TheVariants.{Memory}

-- what follows from how a log has ended holds of the log's end
log_ends_so : (A B : Bool → List Event → Type 0) (logged : Bool) (trace : List Event)
    → ((whole : Bool) (written : List Event) → A whole written → B whole written)
    → LogEnds A logged trace → LogEnds B logged trace
log_ends_so A B true trace so ends = so true trace ends
log_ends_so A B false trace so (taken, missed, parts, whole, ends) = (taken, missed, parts, whole, so whole taken ends)

brief_ends_so : (A B : Bool → List Event → Type 0) (whole : Bool) (trace : List Event)
    → ((all : Bool) (written : List Event) → A all written → B all written)
    → EndsBrief A whole trace → EndsBrief B whole trace
brief_ends_so A B true trace so ends = so true (brief_first trace) ends
brief_ends_so A B false trace so (written, part, (all, ends)) = (written, part, (all, so all written ends))

-- what holds of a value, if there is one, holds of the one that there is
pub some_known : {A : Type 0} (known : Option A) (x : A) (P : A → Type 0) → known ≡ Some x → IfSome known P → P x
some_known known x P is so = subst (λ k. IfSome k P) is so

-- files with these bytes, if their bytes are known, have them at their end
module _ (known : Option (List ℕ)) (bytes : List ℕ) (is : IfSome known (λ taken. taken ≡ bytes)) where
  known_so : (whole : Bool) (trace : List Event) → KnowsEnd whole trace known → KnowsEnd whole trace (Some bytes)
  known_so whole trace ends = by known is ends
    where
      by : (known : Option (List ℕ)) → IfSome known (λ taken. taken ≡ bytes) → KnowsEnd whole trace known
          → KnowsEnd whole trace (Some bytes)
      by None is ends = absurd ends
      by (Some taken) is ends = subst (λ text. KnowsEnd whole trace (Some text)) is ends

  pub plain_written : (brief : Bool) → brief ≡ false → (whole : Bool) (trace : List Event) → KnowsEnd whole trace known
      → IsWritten brief bytes whole trace
  plain_written brief not whole trace ends =
      subst (λ b. IsWritten b bytes whole trace) (sym not) (known_so whole trace ends)

  pub brief_written : (brief : Bool) → brief ≡ true → (whole : Bool) (trace : List Event)
      → EndsBrief (λ all written. KnowsEnd all written known) whole trace → IsWritten brief bytes whole trace
  brief_written brief so whole trace ends =
      subst (λ b. IsWritten b bytes whole trace) (sym so)
      (brief_ends_so (λ all written. KnowsEnd all written known)
      (λ all written. KnowsEnd all written (Some bytes)) whole trace known_so ends)

some_none : {A : Type 0} (given : Option A) → is_some given ≡ true → given ≡ None → ⊥
some_none None some none = true≢false (sym some)
some_none (Some x) some none = none-some x (sym none)

module _ {L fresh : Type 0} (state : L → LogState) (has_ended : Bool → List Event → Type 0) (service : RunArguments)
    (table : List Entry) (end : End) (is : fresh) where
  -- turns over a log that was fresh
  abbrev made_now : (calls : List HostCall) → MakesTurns fresh service table end calls
      → MakesTurns ⊤ service table end calls
  made_now calls made = record {
    served = made.served;
    noted = made.noted;
    turns = made.turns;
    fronts = made.fronts;
    drains = made.drains;
    notes = λ so. made.notes is;
    most = made.most;
    asked = made.asked;
    ends = made.ends;
  }

  -- such turns with files that have these bytes
  pub made_traced : (bytes : List ℕ) (calls : List HostCall) → is_some service.trace ≡ true
      → ((whole : Bool) (trace : List Event) → has_ended whole trace → IsWritten service.brief bytes whole trace)
      → MakesLogged state fresh has_ended service table end calls → MakesTraced service table end bytes calls
  made_traced bytes calls some so (made, ended, had) = (
    made_now calls made,
    λ none. absurd (some_none service.trace some none),
    λ some allowed carried. log_ends_so has_ended (IsWritten service.brief bytes) made.served.logged _ so
        (ended is allowed carried),
  )

  -- such turns of a run that writes no trace
  pub made_untraced : (calls : List HostCall) → is_some service.trace ≡ false
      → MakesLogged state fresh has_ended service table end calls → MakesTraced service table end [] calls
  made_untraced calls none (made, ended, had) =
      (made_now calls made, λ _. refl, λ some. absurd (true≢false (sym some ∙ none)))

-- what a run makes over each table that is that of its opening, it makes over the inittab at its path
pub ran_to : (text_at : KnownTexts) (service : RunArguments) (conforms : Option HostSettings → Type 0)
    (opening : StartState) (spoken : RunRemarks) (end : End) (bytes : List ℕ) (old new : RunRecord)
    → HasInittab text_at service (λ parts. TakesParts service parts
    × (spoken.unled ≡ has_no_level service.level (table_in parts)) × IsStartOver service.level (table_in parts) opening
    × EndsTold service (told_of parts) spoken.told end old.out new.out)
    → NewCallsSatisfy old.opened new.opened (λ saids. saids ≡ service ∷ [])
    → new.trace ≡ old.trace ++ bytes
    → ((table : List Entry) → IsStartOver service.level table opening
    → NewCallsSatisfy old.calls new.calls (MakesTraced service table end bytes))
    → (known : Option HostSettings) × HasSettings service known × conforms known
    → RanBy text_at service conforms (turned spoken end) old new
ran_to text_at service conforms opening spoken end bytes old new (parts, are, read, (taken, led, opens, (served, told)))
    by grown made (known, has, is) =
    ((parts, are, read, (taken, led, bytes, grown, made (table_in parts) opens, told)), by, known, has, is)

-- if memory ran out, nothing was asked, whatever the arguments are
pub none_asked : (text_at : KnownTexts) (options : Option InitdArguments) (conforms : Option HostSettings → Type 0)
    (now : RunRecord)
    → CommandLineAsks text_at options conforms (refused Memory) now now
none_asked text_at None conforms now = (refl, refl)
none_asked text_at (Some version) conforms now = (refl, refl)
none_asked text_at (Some (simulates run)) conforms now = (refl, refl)
none_asked text_at (Some (judges path)) conforms now = (refl, refl)
none_asked text_at (Some (runs service)) conforms now = (refl, refl)
