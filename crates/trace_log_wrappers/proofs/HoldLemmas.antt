-- The happenings held and those written stay the brief form after each happening.
use Rattle.trace_log_wrappers.proofs.BriefWords.{◌≡◌, refl, sym, ◌∙◌, ap, subst, ℕ, Bool, true, false, ◌&&◌, cond, List}
use Rattle.trace_log_wrappers.proofs.BriefWords.{[], ◌∷◌}
use Rattle.trace_log_wrappers.proofs.BriefWords.{◌++◌, Option, Some, None, arith, false≢true, none-some, same_Some}
use Rattle.trace_log_wrappers.proofs.BriefWords.{Look, same_id}
use Rattle.trace_log_wrappers.proofs.BriefWords.{Asked, Still, Told, Clock, Nudge, Event, same_id-is, same_id-from}
use Rattle.trace_log_wrappers.proofs.BriefWords.{HeldBack}
use Rattle.trace_log_wrappers.proofs.BriefWords.{HeldLook, Ordered, FoundNothing, in_look, with_telling, with_event}
use Rattle.trace_log_wrappers.proofs.BriefWords.{round_events}
use Rattle.trace_log_wrappers.proofs.BriefWords.{reading_events, held_events, is_bare, held_back, held_behind}
use Rattle.trace_log_wrappers.proofs.BriefWords.{written_of}
use Rattle.trace_log_wrappers.proofs.BriefWords.{is_round_or_reading, ends_look, Settled, Holds, next_by, next_held}
use Rattle.trace_log_wrappers.proofs.BriefWords.{newly_by}
use Rattle.trace_log_wrappers.proofs.BriefWords.{newly_written}

abbrev held_by : Option ℕ → Bool → Option HeldLook → Bool → HeldBack
held_by reading round look within = record { reading = reading; round = round; look = look; within = within }

tell_settled : (id : List ℕ) (written : List Event) → ends_look written ≡ false
    → with_telling id written ≡ Told id ∷ written
tell_settled id written h =
    grind (arith, Still, Asked, Look, same_id, Bool, in_look, Told, arith, same_id-from, same_id-is)

-- a happening that is held back, so that nothing is written
pub record Absorbs (happening : Event) (held next : HeldBack) (written : List Event) : Type 0 where
  pub brief : with_event happening (held_events held ++ written) ≡ held_events next ++ written
  pub settled : Settled next written

round_absorbs : (reading : Option ℕ) (round within : Bool) (written : List Event) → is_round_or_reading written ≡ false
    → Absorbs Nudge (held_by reading round None within) (held_by reading true None within) written
round_absorbs reading round within written no_round = grind arith

moved : (happening : Event) (held next other : HeldBack) (written : List Event) → Absorbs happening held next written
    → Some next ≡ Some other → Absorbs happening held other written
moved happening held next other written absorbs is =
    subst (λ (x : HeldBack). Absorbs happening held x written) (same_Some next other is) absorbs

look_absorbs : (id : List ℕ) (reading : Option ℕ) (round within : Bool) (written : List Event) (next : HeldBack)
    (b : Bool) → Settled (held_by reading round None within) written → (is_bare (held_by reading round None within)
    && within) ≡ b → cond b None (Some (held_by reading round (Some (Ordered id)) within)) ≡ Some next
    → Absorbs (Asked id Look) (held_by reading round None within) next written
look_absorbs id reading round within written next b s is h = grind arith

still_absorbs : (id i : List ℕ) (reading : Option ℕ) (round within : Bool) (written : List Event) (next : HeldBack)
    (b : Bool) → Settled (held_by reading round (Some (Ordered i)) within) written → same_id id i ≡ b
    → cond b (Some (held_by reading round (Some (FoundNothing i)) within)) None ≡ Some next
    → Absorbs (Still id) (held_by reading round (Some (Ordered i)) within) next written
still_absorbs id i reading round within written next false s is h = absurd (none-some next h)
still_absorbs id i reading round within written next true s is h = moved (Still id) (held_by reading round
    (Some (Ordered i)) within) (held_by reading round (Some (FoundNothing i)) within) next written (record {
      brief =
          ap (λ x. Still x ∷ Asked i Look ∷ (round_events round ++ reading_events reading ++ written))
          (same_id-is id i is);
      settled = record { no_round = s.no_round; within = s.within; no_look = s.no_look; not_nested = s.not_nested };
    }) h

told_absorbs : (id i : List ℕ) (reading : Option ℕ) (round within : Bool) (written : List Event) (next : HeldBack)
    (b : Bool) → Settled (held_by reading round (Some (FoundNothing i)) within) written → same_id id i ≡ b
    → cond b (Some (held_by reading round None within)) None ≡ Some next
    → Absorbs (Told id) (held_by reading round (Some (FoundNothing i)) within) next written
told_absorbs id i reading round within written next b s is h = grind arith

absorbs_by : (happening : Event) (reading : Option ℕ) (round : Bool) (look : Option HeldLook) (within : Bool)
    (written : List Event) (next : HeldBack) → Settled (held_by reading round look within) written → held_back happening
    (held_by reading round look within) ≡ Some next → Absorbs happening (held_by reading round look within) next written
absorbs_by (Clock new) reading round None within written next s h = grind arith
absorbs_by Nudge reading round None within written next s h = moved Nudge (held_by reading round None within)
    (held_by reading true None within) next written (round_absorbs reading round within written s.no_round) h
absorbs_by (Asked id Look) reading round None within written next s h =
    look_absorbs id reading round within written next (is_bare (held_by reading round None within) && within) s refl h
absorbs_by (Still id) reading round (Some (Ordered i)) within written next s h =
    still_absorbs id i reading round within written next (same_id id i) s refl h
absorbs_by (Told id) reading round (Some (FoundNothing i)) within written next s h =
    told_absorbs id i reading round within written next (same_id id i) s refl h
absorbs_by _ reading round look within written next s h = absurd (none-some next h)

-- a happening for which everything held is written
pub record Passes (happening : Event) (held : HeldBack) (written : List Event) : Type 0 where
  pub brief : with_event happening (held_events held ++ written)
      ≡ held_events (held_behind happening) ++ (written_of happening ++ held_events held ++ written)
  pub settled : Settled (held_behind happening) (written_of happening ++ held_events held ++ written)

none_some : {P : Type 0} (next : HeldBack) → Some next ≡ None → P
none_some next h = absurd (none-some next (sym h))

told_passes : (id : List ℕ) (reading : Option ℕ) (round : Bool) (look : Option HeldLook) (within : Bool)
    (written : List Event) → Settled (held_by reading round look within) written → held_back (Told id)
    (held_by reading round look within) ≡ None → with_telling id (held_events (held_by reading round look within)
    ++ written) ≡ Told id ∷ (held_events (held_by reading round look within) ++ written)
told_passes id reading round look within written s h = grind (arith, tell_settled, none_some)

-- the state after a happening that is written
plain : (happening : Event) (rest : List Event) → is_round_or_reading (happening ∷ rest) ≡ false
    → in_look (happening ∷ []) ≡ in_look (happening ∷ rest) → ends_look (happening ∷ rest) ≡ false
    → Settled (held_by None false None (in_look (happening ∷ []))) (happening ∷ rest)
plain happening rest no_round within no_look = record {
  no_round = no_round;
  within = λ _. within;
  no_look = λ _. no_look;
  not_nested = λ none. absurd (false≢true none);
}

passes_by : (happening : Event) (reading : Option ℕ) (round : Bool) (look : Option HeldLook) (within : Bool)
    (written : List Event) → Settled (held_by reading round look within) written → held_back happening
    (held_by reading round look within) ≡ None → Passes happening (held_by reading round look within) written
passes_by (Clock new) reading round None within written s h = none_some _ h
passes_by (Clock new) reading round (Some (Ordered i)) within written s h = grind arith
passes_by (Clock new) reading round (Some (FoundNothing i)) within written s h = grind arith
passes_by Nudge reading round None within written s h = none_some _ h
passes_by Nudge reading round (Some (Ordered i)) within written s h = grind arith
passes_by Nudge reading round (Some (FoundNothing i)) within written s h = grind arith
passes_by (Told id) reading round look within written s h = record {
  brief = told_passes id reading round look within written s h;
  settled = plain (Told id) (held_events (held_by reading round look within) ++ written) refl refl refl;
}
passes_by (Asked id Look) reading round look within written s h = grind arith
passes_by (Still id) reading round look within written s h = grind arith
passes_by happening reading round look within written s h = record {
  brief = refl;
  settled = plain happening (held_events (held_by reading round look within) ++ written) refl refl refl;
}

pub holds_first : Holds (held_by None false None false) [] []
holds_first = record {
  brief = refl;
  settled =
      record {
        no_round = refl;
        within = λ _. refl;
        no_look = λ _. refl;
        not_nested = λ none. absurd (false≢true none);
      };
}

pub holds_absorbed : (happening : Event) (held next : HeldBack) (written trace : List Event) → Holds held written trace
    → held_back happening held ≡ Some next → Holds next written (happening ∷ trace)
holds_absorbed happening held next written trace holds h =
    let step = absorbs_by happening held.reading held.round held.look held.within written next holds.settled h in
    record { brief = sym step.brief ∙ ap (with_event happening) holds.brief; settled = step.settled }

pub holds_passed : (happening : Event) (held : HeldBack) (written trace : List Event) → Holds held written trace
    → held_back happening held ≡ None
    → Holds (held_behind happening) (written_of happening ++ held_events held ++ written) (happening ∷ trace)
holds_passed happening held written trace holds h =
    let step = passes_by happening held.reading held.round held.look held.within written holds.settled h in
    record { brief = sym step.brief ∙ ap (with_event happening) holds.brief; settled = step.settled }

pub holds_next : (happening : Event) (held : HeldBack) (written trace : List Event) → Holds held written trace
    → Holds (next_held happening held) (newly_written happening held ++ written) (happening ∷ trace)
holds_next happening held written trace holds = split (held_back happening held) refl where
  split : (o : Option HeldBack) → held_back happening held ≡ o
      → Holds (next_by happening o) (newly_by happening held o ++ written) (happening ∷ trace)
  split None is = holds_passed happening held written trace holds is
  split (Some next) is = holds_absorbed happening held next written trace holds is
