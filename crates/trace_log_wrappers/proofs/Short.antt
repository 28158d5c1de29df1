-- The brief form of a trace cannot be shortened further.
use Rattle.trace_log_wrappers.proofs.BriefWords.{◌≡◌, refl, ◌∙◌, ap, List, [], ◌∷◌, length, arith, Event, with_event}
use Rattle.trace_log_wrappers.proofs.BriefWords.{brief_of}
use Rattle.trace_log_wrappers.proofs.BriefWords.{IsBrief}

no_loop : (happening : Event) (past : List Event) → past ≡ happening ∷ past → ⊥
no_loop happening past h = omega (arith, ap length h)

then_is_brief : (happening : Event) (past : List Event) → IsBrief past → IsBrief (with_event happening past)
then_is_brief happening past b = grind (arith, no_loop)

pub is_brief : (past : List Event) → IsBrief (brief_of past)
is_brief [] = tt
is_brief (happening ∷ past) = then_is_brief happening (brief_of past) (is_brief past)

-- a trace that cannot be shortened is its own brief form
stays_brief : (past : List Event) → IsBrief past → brief_of past ≡ past
stays_brief [] b = refl
stays_brief (happening ∷ past) b = ap (with_event happening) (stays_brief past b.1) ∙ b.0

pub brief_twice : (past : List Event) → brief_of (brief_of past) ≡ brief_of past
brief_twice past = stays_brief (brief_of past) (is_brief past)
