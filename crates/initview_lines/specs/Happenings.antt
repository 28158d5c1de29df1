-- The messages about the happenings of a trace that an operator sees.
use Rattle.std.specs.Prelude.{ℕ, List, [], ◌∷◌, ◌++◌, length, Option, Some, None}
use Rattle.std.specs.Option.{option_map}
use Rattle.initview_lines.specs.CommonWords.{NewTable, NotRead, Enter, Call, Power, Hold, Settle, Birth, NoBirth}
use Rattle.initview_lines.specs.CommonWords.{Reaped, NoLook, Hit, Miss, Got, Handed, Event, open_of, time_of, child_of}
use Rattle.initview_lines.specs.CommonWords.{number_of}
use Rattle.initview_lines.specs.declared.happenings.News.{News}
use Rattle.initview_lines.specs.declared.happenings.News.TheVariants as news
use Rattle.initview_lines.specs.declared.lines.Line.{Line}
use Rattle.initview_lines.specs.declared.lines.Line.TheVariants as line

-- the number of the id's unreaped child
abbrev pub child_number : List ℕ → List Event → Option ℕ
child_number id past = option_map number_of (child_of id past)

-- The message about a happening after this past. The open order names a signal. There is no message about an order,
-- because the act that answers it has one; about a death, because the reaping has one; and about a look that found its
-- child alive, `told`, a reading of the clock and a round.
abbrev pub news_of : Event → List Event → Option News
news_of (NewTable table) past = Some (news.Table (length table))
news_of NotRead past = Some news.NotRead
news_of (Enter stage grace) past = Some (news.Entered stage)
news_of (Settle level) past = Some (news.Settled level)
news_of (Call letter) past = Some (news.Called letter)
news_of (Power kind) past = Some (news.Power kind)
news_of (Hold id) past = Some (news.Held id)
news_of (Birth id number) past = Some (news.Born id number)
news_of (NoBirth id) past = Some (news.NotBorn id)
news_of (Reaped id number status) past = Some (news.Ended id number status)
news_of (NoLook id) past = Some (news.NotSeen id)
news_of (Hit id) past = Some (news.Sent id (open_of id past) (child_number id past))
news_of (Miss id) past = Some (news.NotSent id (open_of id past) (child_number id past))
news_of (Got request) past = Some (news.Got request)
news_of (Handed how) past = Some (news.Handed how)
news_of _ past = None

-- the line for a message at this time, if there is one
abbrev pub line_at : ℕ → Option News → List Line
line_at time None = []
line_at time (Some told) = line.Happened time told ∷ []

-- the line for the message about a happening, if there is one
abbrev pub happening_lines : Event → List Event → List Line
happening_lines happening past = line_at (time_of (happening ∷ past)) (news_of happening past)

-- the lines for all happenings of a past, oldest first
abbrev pub follow_in : List Event → List Line
follow_in [] = []
follow_in (happening ∷ past) = follow_in past ++ happening_lines happening past
