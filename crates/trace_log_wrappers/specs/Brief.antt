-- The brief form of a trace. It omits the looks that found nothing. Between two other happenings, it keeps only the
-- greatest reading of the clock and one round.
use Rattle.std.specs.Prelude.{◌≡◌, ℕ, Bool, true, false, not, ◌&&◌, if◌then◌else◌, max, List, [], ◌∷◌}
use Rattle.init_words.specs.declared.orders.OrderKind.TheVariants.{Look}
use Rattle.init_words.specs.Ids.{same_id}
use Rattle.trace_events.specs.declared.happenings.Happening.TheVariants.{Asked, Still, Told, Clock, Nudge}
use Rattle.trace_events.specs.Event.{Event}

-- the newest happening is the order of a look, or the result that a look found nothing
abbrev pub in_look : List Event → Bool
in_look (Asked id Look ∷ past) = true
in_look (Still id ∷ past) = true
in_look _ = false

-- Adds `told ID`. If it reports a look that found nothing, the look is removed instead, unless the happening before the
-- look is itself the order of a look or a look that found nothing.
abbrev pub with_telling : List ℕ → List Event → List Event
with_telling id (Still i ∷ Asked j Look ∷ brief) =
    if same_id id i && same_id id j && not (in_look brief) then brief else Told id ∷ Still i ∷ Asked j Look ∷ brief
with_telling id brief = Told id ∷ brief

-- adds a reading of the clock; keeps only the greater of two adjacent readings
abbrev pub with_reading : ℕ → List Event → List Event
with_reading reading (Clock before ∷ brief) = Clock (max reading before) ∷ brief
with_reading reading brief = Clock reading ∷ brief

-- adds a reading of the clock, before a round that the reading would otherwise directly follow
abbrev pub with_early_reading : ℕ → List Event → List Event
with_early_reading reading (Nudge ∷ brief) = Nudge ∷ with_reading reading brief
with_early_reading reading brief = with_reading reading brief

-- adds a round; keeps only one of two adjacent rounds
abbrev pub with_round : List Event → List Event
with_round (Nudge ∷ brief) = Nudge ∷ brief
with_round brief = Nudge ∷ brief

-- the brief form after one more happening
abbrev pub with_event : Event → List Event → List Event
with_event (Told id) brief = with_telling id brief
with_event (Clock reading) brief = with_early_reading reading brief
with_event Nudge brief = with_round brief
with_event happening brief = happening ∷ brief

-- the brief form of a trace
abbrev pub brief_of : List Event → List Event
brief_of [] = []
brief_of (happening ∷ past) = with_event happening (brief_of past)

-- no happening of the trace can be omitted: adding each one to those before it puts it in front and changes none of
-- them
abbrev pub IsBrief : List Event → Type 0
IsBrief [] = Unit {0}
IsBrief (happening ∷ past) = (with_event happening past ≡ happening ∷ past) × IsBrief past
