-- What the view of a trace sees when init reads another inittab at its end.
use Rattle.initview_command.proofs.Words.{◌≡◌, List, ◌∷◌, Option, Some, None, option_map, Event, ViewAfterHappening}
use Rattle.initview_command.proofs.Words.{ViewState}
use Rattle.initview_command.proofs.Words.{Viewed}
use Rattle.trace_check.specs.declared.laws.Law.{Law}
use Rattle.trace_check.specs.Laws.{law_number}

-- a happening that breaks no law is seen
pub seen : (law : Option Law) (old new : ViewState) (happening : Event) (past : List Event)
    → option_map law_number law ≡ None
    → ViewAfterHappening law old new happening → Viewed old past → Viewed new (happening ∷ past)
seen None old new happening past lawful sees viewed = sees past viewed
seen (Some law) old new happening past lawful sees viewed = absurd (cc)
