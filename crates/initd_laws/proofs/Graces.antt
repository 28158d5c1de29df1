-- The grace in force is that of the opening goal or of a request, so it is at least what these allow.
use Rattle.trace_laws.proofs.Words.{◌≡◌, refl, ℕ, Bool, true, List, [], ◌∷◌, list_all, false≢true, and_parts, and_from}
use Rattle.trace_laws.proofs.Words.{arith, Goal, Event, stage_of, is_sound, may_come, grace_of, nat_le, is_some}
use Rattle.initctl_frame.specs.declared.requests.HeardRequest.{HeardRequest}
use Rattle.trace_events.specs.declared.happenings.Happening.TheVariants as past
use Rattle.trace_laws.proofs.Seconds.{request_fits, requests_fit, enter_fits}
use Rattle.initd_laws.specs.Requests.{leaves_time}

module _ (least : ℕ) where
  abbrev pub leaves_enough : Event → Bool
  leaves_enough (past.Got request) = leaves_time least request
  leaves_enough _ = true

  request_enough : (request : HeardRequest) → leaves_time least request ≡ true
      → request_fits (nat_le least) request ≡ true
  request_enough request enough = grind arith

  requests_enough : (so_far : List Event) → list_all leaves_enough so_far ≡ true
      → list_all (requests_fit (nat_le least)) so_far ≡ true
  requests_enough [] all = refl
  requests_enough (past.Got request ∷ so_far) all =
      let parts = and_parts (leaves_time least request) (list_all leaves_enough so_far) all in
      and_from (request_fits (nat_le least) request) (list_all (requests_fit (nat_le least)) so_far)
      (request_enough request parts.0) (requests_enough so_far parts.1)
  requests_enough (happening ∷ so_far) all = requests_enough so_far all

  pub grace_enough : (goal : Goal) (trace : List Event) → nat_le least goal.grace ≡ true → is_sound goal trace ≡ true
      → list_all leaves_enough trace ≡ true → is_some (stage_of trace) ≡ true → nat_le least (grace_of trace) ≡ true
  grace_enough goal [] opening sound all there = absurd (false≢true there)
  grace_enough goal (past.Enter now grace ∷ so_far) opening sound all there =
      enter_fits (nat_le least) goal so_far now grace opening (requests_enough so_far all)
      (and_parts (may_come goal (past.Enter now grace) so_far) (is_sound goal so_far) sound).0
  grace_enough goal (past.NewTable table ∷ []) opening sound all there = absurd (false≢true there)
  grace_enough goal (past.NewTable table ∷ before ∷ so_far) opening sound all there =
      grace_enough goal (before ∷ so_far) opening (and_parts (may_come goal (past.NewTable table) (before ∷ so_far))
      (is_sound goal (before ∷ so_far)) sound).1 all there
  grace_enough goal (past.Got request ∷ so_far) opening sound all there =
      grace_enough goal so_far opening
      (and_parts (may_come goal (past.Got request) so_far) (is_sound goal so_far) sound).1
      (and_parts (leaves_time least request) (list_all leaves_enough so_far) all).1 there
  grace_enough goal (happening ∷ so_far) opening sound all there =
      grace_enough goal so_far opening
      (and_parts (may_come goal happening so_far) (is_sound goal so_far) sound).1 all there
