-- The entries that a power event or a letter has named since the last Enter or table; see init(8) and telinit(8).
use Rattle.std.specs.Prelude.{Bool, false, ◌&&◌, ◌||◌, List, [], ◌∷◌}
use Rattle.trace_view.specs.Words.{Entry, Letter, PowerKind, is_called_by, is_ondemand, same_letter, same_power}
use Rattle.trace_view.specs.Words.{NewTable, Enter, Call, Power, Event}
use Rattle.init_words.specs.declared.levels.Letter.TheVariants as letter
use Rattle.init_words.specs.declared.levels.Mark.TheVariants.{OnCall}
use Rattle.init_words.specs.declared.orders.PowerKind.TheVariants as power
use Rattle.init_words.specs.Levels.{names}
use Rattle.trace_events.specs.declared.call_sets.CallSet.{CallSet}

-- init has called entries for this power event since the last Enter or NewTable
abbrev pub is_called_for : PowerKind → List Event → Bool
is_called_for kind [] = false
is_called_for kind (Enter stage grace ∷ past) = false
is_called_for kind (NewTable table ∷ past) = false
is_called_for kind (Power k ∷ past) = same_power kind k || is_called_for kind past
is_called_for kind (_ ∷ past) = is_called_for kind past

-- init has called the ondemand entries for this letter since the last Enter or NewTable
abbrev pub is_lettered : Letter → List Event → Bool
is_lettered letter [] = false
is_lettered letter (Enter stage grace ∷ past) = false
is_lettered letter (NewTable table ∷ past) = false
is_lettered letter (Call l ∷ past) = same_letter letter l || is_lettered letter past
is_lettered letter (_ ∷ past) = is_lettered letter past

-- the power events and letters that have called entries since the last Enter or table
abbrev pub calls_of : List Event → CallSet
calls_of past = record {
  fail = is_called_for power.Fail past;
  fail_now = is_called_for power.FailNow past;
  ok = is_called_for power.Ok past;
  a = is_lettered letter.A past;
  b = is_lettered letter.B past;
  c = is_lettered letter.C past;
}

-- one of the calls names the entry: the power event calls its action, or the action is ondemand and the letter is among
-- its runlevels
abbrev pub is_named_by : Entry → CallSet → Bool
is_named_by e calls =
    is_called_by power.Fail e.act && calls.fail || (is_called_by power.FailNow e.act && calls.fail_now
    || (is_called_by power.Ok e.act && calls.ok || is_ondemand e.act
    && (names (OnCall letter.A) e.levels.items && calls.a || (names (OnCall letter.B) e.levels.items && calls.b
    || names (OnCall letter.C) e.levels.items && calls.c))))

-- one of the calls of the past names the entry
abbrev pub was_named : Entry → List Event → Bool
was_named e past = is_named_by e (calls_of past)
