-- The line of a trace's text at which the last happening of each kind begins, and the line that explains why an entry
-- is not started. Lines are counted from 1. A happening has one line, except that a new table has one more for each
-- entry.
use Rattle.std.specs.Prelude.{◌≡◌, ℕ, ◌+◌, Bool, true, false, not, max, if◌then◌else◌, List, [], ◌∷◌, reverse, Option}
use Rattle.std.specs.Prelude.{Some, None}
use Rattle.trace_view.specs.Words.{newlines, Entry, Stage, same_id, NewTable, Enter, Asked, Hold, Birth, NoBirth}
use Rattle.trace_view.specs.Words.{Reaped, Got, Event, table_of, stage_of, is_level, trace_text, at}
use Rattle.initctl_frame.specs.declared.requests.HeardRequest.TheVariants as got
use Rattle.trace_view.specs.declared.whys.Why.{Why}
use Rattle.trace_view.specs.declared.whys.Why.TheVariants as why
use Rattle.trace_view.specs.declared.wishes.Wish.{Wish}
use Rattle.trace_view.specs.declared.wishes.Wish.TheVariants as wish
use Rattle.trace_view.specs.declared.last_lines.KindLines.{KindLines}
use Rattle.trace_view.specs.Births.{is_early}
use Rattle.trace_view.specs.Viewing.{newborn_in}

-- the line at which the next happening will begin
unfoldable pub following_line : List Event → ℕ
following_line past = newlines (trace_text (reverse past)) + 1

-- this line if the condition holds, otherwise the earlier one
abbrev pub line_after : Bool → ℕ → Option ℕ → Option ℕ
line_after so line before = if so then Some line else before

-- the line at which the last happening of a kind begins
abbrev pub last_line : (Event → Bool) → List Event → Option ℕ
last_line is [] = None
last_line is (happening ∷ past) = line_after (is happening) (following_line past) (last_line is past)

abbrev pub is_table : Event → Bool
is_table (NewTable table) = true
is_table _ = false

-- the happening is that a stage begins
abbrev pub is_entering : Event → Bool
is_entering (Enter stage grace) = true
is_entering _ = false

-- the happening is a request to re-execute init
abbrev pub is_reexec : Event → Bool
is_reexec (Got got.Reexec) = true
is_reexec _ = false

-- the happening is a request for a level
abbrev pub is_goal : Event → Bool
is_goal (Got (got.Level level grace)) = true
is_goal _ = false

-- the happening is a request to call entries by a letter or for a power event
abbrev pub is_news : Event → Bool
is_news (Got (got.Call letter)) = true
is_news (Got (got.Power kind)) = true
is_news _ = false

-- the happening is a request that causes init to reread inittab: a reload, or a request for a level that is not in
-- force
abbrev pub is_reread : Option Stage → Event → Bool
is_reread stage (Got got.Reload) = true
is_reread stage (Got (got.Level level grace)) = not (is_level level stage)
is_reread stage _ = false

-- the line of the last request that caused init to reread inittab
abbrev pub reread_line : List Event → Option ℕ
reread_line [] = None
reread_line (happening ∷ past) =
    line_after (is_reread (stage_of past) happening) (following_line past) (reread_line past)

-- the id of the child that is born, if the happening is a birth
abbrev pub born_in : Event → Option (List ℕ)
born_in (Birth id number) = Some id
born_in _ = None

-- the id that could not be started, if the happening is a failed start
abbrev pub unborn_in : Event → Option (List ℕ)
unborn_in (NoBirth id) = Some id
unborn_in _ = None

-- the id of the child that is reaped, if the happening is a reaping
abbrev pub reaped_in : Event → Option (List ℕ)
reaped_in (Reaped id number status) = Some id
reaped_in _ = None

-- the id that an order is for, if the happening is an order
abbrev pub ordered_in : Event → Option (List ℕ)
ordered_in (Asked id ask) = Some id
ordered_in _ = None

-- the id that is held, if the happening is a hold
abbrev pub held_in : Event → Option (List ℕ)
held_in (Hold id) = Some id
held_in _ = None

-- there is an id, and it is this one
abbrev pub names : List ℕ → Option (List ℕ) → Bool
names id None = false
names id (Some other) = same_id id other

-- the line at which the last happening of a kind about the id begins
abbrev pub last_of : (Event → Option (List ℕ)) → List ℕ → List Event → Option ℕ
last_of about id [] = None
last_of about id (happening ∷ past) =
    line_after (names id (about happening)) (following_line past) (last_of about id past)

-- the id of the child, if the happening is a birth before the first level under this table
abbrev pub early_in : List Entry → Event → Option (List ℕ)
early_in table (Birth id number) = if is_early (newborn_in table id number) then Some id else None
early_in table _ = None

-- the line at which the last birth of the id before the first level begins
abbrev pub early_line : List ℕ → List Event → Option ℕ
early_line id [] = None
early_line id (happening ∷ past) =
    line_after (names id (early_in (table_of (happening ∷ past)) happening)) (following_line past) (early_line id past)

-- the later of two lines
abbrev pub later : Option ℕ → Option ℕ → Option ℕ
later None line = line
later (Some line) None = Some line
later (Some line) (Some other) = Some (max line other)

-- the line of a pending request, which is the last one of its kind
abbrev pub wish_line : Wish → List Event → Option ℕ
wish_line wish.Reexec past = last_line is_reexec past
wish_line wish.Reread past = reread_line past
wish_line (wish.Level level) past = last_line is_goal past
wish_line wish.News past = last_line is_news past

-- The line that explains each reason, if there is one. For a missing entry or an action that is never started, it is
-- the line of the table in force; for an entry that belongs to another stage, the line of the stage in force, or of the
-- entry's birth before the first level. For a child, it is the line of its birth, or of the id's last reaping if that
-- is later; for an open order, the line of the order; for an entry that was not called, the line of the last stage or
-- table; for an entry that was started already, or too often, the line of its last birth or failed start. If init waits
-- for another entry, it is the line of the birth of that entry's child, or of the stage if that is later; for an
-- excluded child, the line of its birth; for a request or a hold, its line.
abbrev pub line_at_fault : List ℕ → Why → List Event → Option ℕ
line_at_fault id why.NoEntry past = last_line is_table past
line_at_fault id why.NeverStarts past = last_line is_table past
line_at_fault id why.NoStage past = None
line_at_fault id why.RanBefore past = early_line id past
line_at_fault id why.StageOver past = last_line is_entering past
line_at_fault id (why.StageOwed awaited) past = later (last_of born_in awaited past) (last_line is_entering past)
line_at_fault id why.OtherStage past = last_line is_entering past
line_at_fault id (why.ChildKept number) past = later (last_of born_in id past) (last_of reaped_in id past)
line_at_fault id (why.OrderOpen asked) past = last_of ordered_in id past
line_at_fault id why.NotCalled past = later (last_line is_entering past) (last_line is_table past)
line_at_fault id why.WasStarted past = later (last_of born_in id past) (last_of unborn_in id past)
line_at_fault id (why.EarlierOwed earlier) past = later (last_of born_in earlier past) (last_line is_entering past)
line_at_fault id (why.ExcludedKept child) past = last_of born_in child.id past
line_at_fault id (why.WishStands wish) past = wish_line wish past
line_at_fault id (why.Held since) past = last_of held_in id past
line_at_fault id why.WindowFull past = later (last_of born_in id past) (last_of unborn_in id past)
line_at_fault id why.Nothing past = None

-- the lines of the last happenings that are not about an id
abbrev pub kinds_of : List Event → KindLines
kinds_of past = record {
  table = last_line is_table past;
  entering = last_line is_entering past;
  reexec = last_line is_reexec past;
  reread = reread_line past;
  goal = last_line is_goal past;
  news = last_line is_news past;
}

-- the recorded lines: the lines of the last happenings that are not about an id, and for each kind that is about an id,
-- one line per id
pub record LinesState : Type 0 where
  pub kinds : KindLines
  pub births : List (List ℕ × ℕ)
  pub early : List (List ℕ × ℕ)
  pub failures : List (List ℕ × ℕ)
  pub reapings : List (List ℕ × ℕ)
  pub orders : List (List ℕ × ℕ)
  pub holds : List (List ℕ × ℕ)

-- the lines are right for this past, newest happening first
pub record Lined (lines : LinesState) (past : List Event) : Type 0 where
  pub kinds : lines.kinds ≡ kinds_of past
  pub births : (id : List ℕ) → at id lines.births ≡ last_of born_in id past
  pub early : (id : List ℕ) → at id lines.early ≡ early_line id past
  pub failures : (id : List ℕ) → at id lines.failures ≡ last_of unborn_in id past
  pub reapings : (id : List ℕ) → at id lines.reapings ≡ last_of reaped_in id past
  pub orders : (id : List ℕ) → at id lines.orders ≡ last_of ordered_in id past
  pub holds : (id : List ℕ) → at id lines.holds ≡ last_of held_in id past
