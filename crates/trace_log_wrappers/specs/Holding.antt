-- The state of a log that writes brief traces: which happenings it holds back because they may still be omitted or
-- changed, and which it writes.
use Rattle.std.specs.Prelude.{ℕ, Bool, true, false, not, ◌&&◌, ◌≡◌, if◌then◌else◌, max, List, [], ◌∷◌, ◌++◌, Option}
use Rattle.std.specs.Prelude.{Some, None, is_none, is_some}
use Rattle.init_words.specs.declared.orders.OrderKind.TheVariants.{Look}
use Rattle.init_words.specs.Ids.{same_id}
use Rattle.trace_events.specs.declared.happenings.Happening.TheVariants.{Asked, Still, Told, Clock, Nudge}
use Rattle.trace_events.specs.Event.{Event}
use Rattle.trace_log_wrappers.specs.declared.held.HeldBack.{HeldBack}
use Rattle.trace_log_wrappers.specs.declared.held.HeldLook.{HeldLook}
use Rattle.trace_log_wrappers.specs.declared.held.HeldLook.TheVariants.{Ordered, FoundNothing}
use Rattle.trace_log_wrappers.specs.Brief.{in_look, brief_of}

-- the happenings of the look that is held back, newest first
abbrev pub look_events : Option HeldLook → List Event
look_events None = []
look_events (Some (Ordered id)) = Asked id Look ∷ []
look_events (Some (FoundNothing id)) = Still id ∷ Asked id Look ∷ []

-- the happening of the round that is held back, if there is one
abbrev pub round_events : Bool → List Event
round_events true = Nudge ∷ []
round_events false = []

-- the happening of the clock reading that is held back, if there is one
abbrev pub reading_events : Option ℕ → List Event
reading_events None = []
reading_events (Some reading) = Clock reading ∷ []

-- all happenings held back, newest first: at most a look, a round and a reading
abbrev pub held_events : HeldBack → List Event
held_events held = look_events held.look ++ round_events held.round ++ reading_events held.reading

-- neither a round nor a reading is held
abbrev pub is_bare : HeldBack → Bool
is_bare held = not held.round && is_none held.reading

-- the newest happening is a reading or a round
abbrev pub is_round_or_reading : List Event → Bool
is_round_or_reading (Clock reading ∷ past) = true
is_round_or_reading (Nudge ∷ past) = true
is_round_or_reading _ = false

-- the newest happenings belong to a look that may still be omitted
abbrev pub ends_look : List Event → Bool
ends_look (Asked id Look ∷ past) = not (in_look past)
ends_look (Still i ∷ Asked j Look ∷ past) = same_id i j && not (in_look past)
ends_look _ = false

-- The happenings written, newest first, can no longer change. The newest of them is not a round or a reading. If no
-- round or reading is held, `within` is true exactly if the newest belongs to a look, and they do not end with a look
-- that may still be omitted. A look is held only if it does not directly follow another look.
pub record Settled (held : HeldBack) (written : List Event) : Type 0 where
  pub no_round : is_round_or_reading written ≡ false
  pub within : is_bare held ≡ true → held.within ≡ in_look written
  pub no_look : is_bare held ≡ true → ends_look written ≡ false
  pub not_nested : is_some held.look ≡ true → (is_bare held && held.within) ≡ false

-- the happenings written and those held back are together the brief form of the trace
pub record Holds (held : HeldBack) (written trace : List Event) : Type 0 where
  pub brief : held_events held ++ written ≡ brief_of trace
  pub settled : Settled held written

-- the greater of a reading and an earlier one, if there is an earlier one
abbrev pub greater_reading : ℕ → Option ℕ → ℕ
greater_reading reading None = reading
greater_reading reading (Some before) = max reading before

-- the state after this happening is held back, given the look that is held; none if it cannot be held back
abbrev pub held_back_by : Event → Option HeldLook → HeldBack → Option HeldBack
held_back_by (Clock reading) None held = Some (record held { reading = Some (greater_reading reading held.reading) })
held_back_by Nudge None held = Some (record held { round = true })
held_back_by (Asked id Look) None held =
    if is_bare held && held.within then None else Some (record held { look = Some (Ordered id) })
held_back_by (Still id) (Some (Ordered i)) held =
    if same_id id i then Some (record held { look = Some (FoundNothing i) }) else None
held_back_by (Told id) (Some (FoundNothing i)) held =
    if same_id id i then Some (record held { look = None }) else None
held_back_by _ _ held = None

-- the state after this happening is held back; none if it cannot be held back
abbrev pub held_back : Event → HeldBack → Option HeldBack
held_back happening held = held_back_by happening held.look held

-- the state after a happening that causes those held back to be written; only a reading or a round is then held back
abbrev pub held_behind : Event → HeldBack
held_behind (Clock reading) = record { reading = Some reading; round = false; look = None; within = true }
held_behind Nudge = record { reading = None; round = true; look = None; within = true }
held_behind happening = record { reading = None; round = false; look = None; within = in_look (happening ∷ []) }

-- what is written, after the happenings held back, when a happening arrives that is not held back with them: the
-- happening itself, unless it is a reading or a round
abbrev pub written_of : Event → List Event
written_of (Clock reading) = []
written_of Nudge = []
written_of happening = happening ∷ []

-- the state after a happening: the given state if the happening can be held back, otherwise the state after those held
-- back are written
abbrev pub next_by : Event → Option HeldBack → HeldBack
next_by happening None = held_behind happening
next_by happening (Some held) = held

-- the state after a happening
abbrev pub next_held : Event → HeldBack → HeldBack
next_held happening held = next_by happening (held_back happening held)

-- the happenings that are written when this happening arrives, newest first, given the new state if it can be held back
abbrev pub newly_by : Event → HeldBack → Option HeldBack → List Event
newly_by happening held None = written_of happening ++ held_events held
newly_by happening held (Some next) = []

-- the happenings that are written when this happening arrives, newest first
abbrev pub newly_written : Event → HeldBack → List Event
newly_written happening held = newly_by happening held (held_back happening held)
