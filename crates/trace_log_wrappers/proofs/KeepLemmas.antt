-- What a brief log has written and holds after a happening that it took or refused, and at its end.
use Rattle.trace_log_wrappers.proofs.Words.{◌≡◌, refl, sym, ◌∙◌, ap, subst, Bool, true, false, List, [], ◌∷◌, ◌++◌}
use Rattle.trace_log_wrappers.proofs.Words.{append-nil, reverse, Ok, Err, OnOk, OnErr, is_ok, ◌&&◌, arith}
use Rattle.trace_log_wrappers.proofs.Words.{reverse-append, Result, Event, HeldBack, brief_of, Holds, held_events}
use Rattle.trace_log_wrappers.proofs.Words.{next_held, LogState, AddsHappenings, AddsFront, held_first, newly_first}
use Rattle.trace_log_wrappers.proofs.Words.{EndsBrief, HandsOn, BriefLogAccepted, Writes}
use Rattle.std.proofs.Common.{is_err}
use Rattle.trace_log_wrappers.proofs.Writing.{kept_end, kept_front, kept_next, kept_part}

-- the reverse of a trace with a happening appended
turned : (trace : List Event) (happening : Event) → reverse (trace ++ happening ∷ []) ≡ happening ∷ reverse trace
turned trace happening = reverse-append trace (happening ∷ [])

module _ {T E : Type 0} (r : Result T E) (Ranged : Type 0) (happening : Event) (old new : LogState)
    (held next : HeldBack) where
  pub took_ok : old.failed ≡ false → new.failed ≡ is_err r → OnOk r (next ≡ next_held happening held)
      → OnOk r (Ranged → AddsHappenings old new (newly_first happening held))
      → OnOk r (Ranged → (before : List Event) → BriefLogAccepted old.failed old held before
      → BriefLogAccepted new.failed new next (before ++ happening ∷ []))
  took_ok works flag is adds = by r flag is adds
    where
      by : (r : Result T E) → new.failed ≡ is_err r → OnOk r (next ≡ next_held happening held)
          → OnOk r (Ranged → AddsHappenings old new (newly_first happening held))
          → OnOk r (Ranged → (before : List Event) → BriefLogAccepted old.failed old held before
          → BriefLogAccepted new.failed new next (before ++ happening ∷ []))
      by (Err e) flag is adds = tt
      by (Ok x) flag is adds = λ ranged before took.
          let writes : Writes old held before = subst (λ b. BriefLogAccepted b old held before) works took in
          subst (λ b. BriefLogAccepted b new next (before ++ happening ∷ [])) (sym flag) (record {
            written = writes.written ++ newly_first happening held;
            is = adds ranged writes.written writes.is;
            holds = subst (λ trace. Holds next (reverse (writes.written ++ newly_first happening held)) trace)
                (sym (turned before happening))
                (subst (λ h. Holds h (reverse (writes.written ++ newly_first happening held))
                (happening ∷ reverse before)) (sym is)
                (kept_next happening held writes.written (reverse before) writes.holds));
          })

  pub took_err : old.failed ≡ false → new.failed ≡ is_err r
      → OnErr r (Ranged → AddsFront old new (newly_first happening held))
      → OnErr r (Ranged → (before : List Event) → BriefLogAccepted old.failed old held before
      → BriefLogAccepted new.failed new next before)
  took_err works flag adds = by r flag adds
    where
      by : (r : Result T E) → new.failed ≡ is_err r → OnErr r (Ranged → AddsFront old new (newly_first happening held))
          → OnErr r
          (Ranged → (before : List Event) → BriefLogAccepted old.failed old held before
          → BriefLogAccepted new.failed new next before)
      by (Ok x) flag adds = tt
      by (Err e) flag adds = λ ranged before took.
          let writes : Writes old held before = subst (λ b. BriefLogAccepted b old held before) works took in
          let parts = adds ranged writes.written writes.is in
          subst (λ b. BriefLogAccepted b new next before) (sym flag) (
            writes.written ++ parts.first,
            record {
              more = happening ∷ [];
              most = omega arith;
              rest = parts.rest ++ reverse (held_events (next_held happening held));
              front = kept_front writes.written parts.first parts.rest _ (reverse before) parts.all happening held refl
                  writes.holds ∙ ap (λ trace. reverse (brief_of trace)) (sym (turned before happening));
            },
            parts.gained,
          )

-- The end of a brief log.

-- a log that has failed passes nothing more on
pub hands_failed : (log : LogState) (held : HeldBack) → log.failed ≡ true → (trace : List Event)
    → BriefLogAccepted log.failed log held trace → HandsOn false log.taken trace
hands_failed log held failed trace took = subst (λ b. BriefLogAccepted b log held trace) failed took

module _ {T E : Type 0} (r : Result T E) (old new : LogState) (held : HeldBack) where
  pub hands_held : old.failed ≡ false → OnOk r (AddsHappenings old new (held_first held))
      → OnErr r (AddsFront old new (held_first held))
      → (handed : Bool) → handed ≡ is_ok r → (trace : List Event) → BriefLogAccepted old.failed old held trace
      → HandsOn handed new.taken trace
  hands_held works adds part handed is trace took = subst (λ b. HandsOn b new.taken trace) (sym is) (by r adds part)
    where
      writes : Writes old held trace
      writes = subst (λ b. BriefLogAccepted b old held trace) works took

      by : (r : Result T E) → OnOk r (AddsHappenings old new (held_first held))
          → OnErr r (AddsFront old new (held_first held)) → HandsOn (is_ok r) new.taken trace
      by (Ok x) adds part =
          subst new.taken (kept_end held writes.written (reverse trace) writes.holds) (adds writes.written writes.is)
      by (Err e) adds part =
          let parts = part writes.written writes.is in (
            writes.written ++ parts.first,
            record {
              more = [];
              most = omega arith;
              rest = parts.rest;
              front = kept_part writes.written parts.first parts.rest _ (reverse trace) parts.all held refl writes.holds
                  ∙ ap (λ t. reverse (brief_of (reverse t))) (sym (append-nil trace));
            },
            parts.gained,
          )

-- the other log ends after it
pub ends : (has_ended : Bool → List Event → Type 0) (taken : List Event → Type 0) (handed whole : Bool)
    (trace : List Event)
    → HandsOn handed taken trace → ((t : List Event) → taken t → has_ended whole t) → (ended : Bool)
    → ended ≡ (handed && whole) → EndsBrief has_ended ended trace
ends has_ended taken handed whole trace hands ended_so ended is =
    subst (λ b. EndsBrief has_ended b trace) (sym is) (by handed whole hands ended_so)
  where
    by : (handed whole : Bool) → HandsOn handed taken trace → ((t : List Event) → taken t → has_ended whole t)
        → EndsBrief has_ended (handed && whole) trace
    by true true hands so = so _ hands
    by true false hands so = (
      _,
      record {
        more = [];
        most = omega arith;
        rest = [];
        front = append-nil _ ∙ ap (λ t. reverse (brief_of (reverse t))) (sym (append-nil trace));
      },
      (false, so _ hands),
    )
    by false whole (written, part, took) so = (written, part, (whole, so written took))
