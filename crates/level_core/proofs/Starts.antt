-- What a search for a start finds at a position.
use Rattle.level_core.proofs.Words.{true, false, ◌≡◌, ℕ, ◌+◌, ◌<◌, ◌≤◌, List, length, drop, get_or, zip, Some, None}
use Rattle.level_core.proofs.Words.{refl, slice_get, Entry, Stage, SlotState, start_along, start_step, is_owed_record}
use Rattle.trace_events.specs.declared.steps.Step.{Step}
use Rattle.level_core.proofs.Pairs.{pair_at, no_pair_at, no_pair_past}

module _ (stage : Stage) (now : ℕ) (table : List Entry) (slots : List SlotState) (i : ℕ) where
  pub along_none : slice_get table i ≡ None → None ≡ start_along stage now (drop i (zip table slots))
  along_none none = rw (no_pair_at table slots i none) refl

  pub along_past : length slots ≤ i → None ≡ start_along stage now (drop i (zip table slots))
  along_past past = rw (no_pair_past table slots i past) refl

  module _ (e : Entry) (slot : SlotState) (at : slice_get table i ≡ Some e) (h : i < length slots)
      (is : slot ≡ get_or slots i slot) where
    pub along_found : (step : Step) → Some step ≡ start_step stage now e slot
        → Some step ≡ start_along stage now (drop i (zip table slots))
    along_found step found = rw (pair_at table slots i e slot at h is, ← found) refl

    pub along_owed : None ≡ start_step stage now e slot → true ≡ is_owed_record stage e slot
        → None ≡ start_along stage now (drop i (zip table slots))
    along_owed none owed = rw (pair_at table slots i e slot at h is, ← none, ← owed) refl

    pub along_pass : None ≡ start_step stage now e slot → false ≡ is_owed_record stage e slot
        → start_along stage now (drop i (zip table slots)) ≡ start_along stage now (drop (i + 1) (zip table slots))
    along_pass none owed = rw (pair_at table slots i e slot at h is, ← none, ← owed) refl
