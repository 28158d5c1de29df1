-- How a happening changes the set of pending calls.
use Rattle.std.proofs.Common.{◌≡◌, refl, true, false, List, ◌∷◌}
use Rattle.init_words.specs.declared.levels.Letter.{Letter}
use Rattle.init_words.specs.declared.levels.Letter.TheVariants as letter
use Rattle.init_words.specs.declared.orders.PowerKind.{PowerKind}
use Rattle.init_words.specs.declared.orders.PowerKind.TheVariants as power
use Rattle.initctl_frame.specs.declared.requests.HeardRequest.TheVariants as got
use Rattle.trace_events.specs.declared.happenings.Happening.TheVariants.{Call, Power, Got}
use Rattle.trace_events.specs.Event.{Event}
use Rattle.trace_events.specs.CallSets.{pending_calls, with_kind, with_call}

module _ (past : List Event) where
  pub news_powered : (kind : PowerKind) → with_kind kind false (pending_calls past) ≡ pending_calls (Power kind ∷ past)
  news_powered power.Fail = refl
  news_powered power.FailNow = refl
  news_powered power.Ok = refl

  pub news_called : (l : Letter) → with_call l false (pending_calls past) ≡ pending_calls (Call l ∷ past)
  news_called letter.A = refl
  news_called letter.B = refl
  news_called letter.C = refl

  pub power_heard : (kind : PowerKind)
      → with_kind kind true (pending_calls past) ≡ pending_calls (Got (got.Power kind) ∷ past)
  power_heard power.Fail = refl
  power_heard power.FailNow = refl
  power_heard power.Ok = refl

  pub letter_heard : (l : Letter) → with_call l true (pending_calls past) ≡ pending_calls (Got (got.Call l) ∷ past)
  letter_heard letter.A = refl
  letter_heard letter.B = refl
  letter_heard letter.C = refl
