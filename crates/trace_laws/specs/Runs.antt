-- Undisturbed runs of init: the only events from outside are the deaths of children that init waits for.
use Rattle.std.specs.Prelude.{◌≡◌, Bool, true, false, not, ◌&&◌, ◌||◌, List, [], ◌∷◌, ◌++◌}
use Rattle.std.specs.List.{list_all}
use Rattle.std.specs.Option.{option_map_or}
use Rattle.trace_laws.specs.Words.{Start, waited_of, entry_of, Step, Order, Event, Child, has_number, table_of}
use Rattle.trace_laws.specs.Words.{unreaped_children}
use Rattle.trace_events.specs.declared.happenings.Happening.TheVariants as happened
use Rattle.trace_events.specs.declared.steps.Step.TheVariants.{Enter}

-- init waits for the child to end: the table has an entry for its id with an action that init waits for
abbrev pub is_awaited : List Event → Child → Bool
is_awaited past child = option_map_or waited_of (entry_of child.id (table_of past)) false

-- The happening does not disturb the run. It is not a new table, a failed reading of inittab, a request, a
-- re-execution, a call of entries by a letter or a power event, or a failed start. If it is a death, init waits for the
-- child that died.
abbrev pub is_mild : Event → List Event → Bool
is_mild (happened.NewTable table) past = false
is_mild happened.NotRead past = false
is_mild (happened.Got request) past = false
is_mild (happened.Handed how) past = false
is_mild (happened.Call letter) past = false
is_mild (happened.Power kind) past = false
is_mild (happened.NoBirth id) past = false
is_mild (happened.Death number) past =
    list_all (λ child. not (has_number number child) || is_awaited past child) (unreaped_children past)
is_mild _ past = true

-- the run is undisturbed: no happening after its first table disturbs it
abbrev pub is_undisturbed : List Event → Bool
is_undisturbed [] = true
is_undisturbed (happened.NewTable table ∷ []) = true
is_undisturbed (happening ∷ past) = is_mild happening past && is_undisturbed past

-- the stages entered and the starts ordered, oldest first
abbrev pub taken : List Event → List Step
taken [] = []
taken (happened.Enter stage grace ∷ past) = taken past ++ Enter stage grace ∷ []
taken (happened.Asked id Start ∷ past) = taken past ++ Order id Start ∷ []
taken (_ ∷ past) = taken past

-- the first list is a prefix of the second
abbrev pub BeginsWith : List Step → List Step → Type 0
BeginsWith first all = (rest : List Step) × (first ++ rest ≡ all)
