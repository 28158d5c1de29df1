-- A log only grows, whatever the host answers.
use Rattle.std.specs.Prelude.{◌≡◌, ℕ, true, List, [], ◌++◌}
use Rattle.supervisor.specs.EdgeWords.{PartialBlock, Event, CoreState, LogState}
use Rattle.core_text.specs.Range.{has_short_seconds}
use Rattle.supervisor.specs.CallsLead.{HasReadBytes}

-- the log has its previous contents, possibly followed by more; a log that had failed has accepted nothing more and is
-- still failed
pub record Grows (old new : LogState) : Type 0 where
  pub told : (before : List Event) → old.taken before
      → (more : List Event) × new.taken (before ++ more) × (old.failed ≡ true → more ≡ [])
  pub stays : old.failed ≡ true → new.failed ≡ true

-- if the grace periods in the core were at most 3,600 seconds, they still are, and the log has only grown, whatever the
-- host answered
abbrev pub ExtendsLogFromCore : CoreState → CoreState → LogState → LogState → Type 0
ExtendsLogFromCore c new old_log new_log =
    has_short_seconds c ≡ true → (has_short_seconds new ≡ true) × Grows old_log new_log

-- the reader of requests has read some bytes of an incomplete block
abbrev pub HasReadSomeBytes : PartialBlock → Type 0
HasReadSomeBytes blocks = (over : List ℕ) × HasReadBytes blocks over

-- if the reader of requests had read some bytes of an incomplete block, it still has, and `ExtendsLogFromCore` holds
abbrev pub ExtendsLogFromReader : CoreState → CoreState → PartialBlock → PartialBlock → LogState → LogState → Type 0
ExtendsLogFromReader c new blocks new_blocks old_log new_log =
    HasReadSomeBytes blocks → HasReadSomeBytes new_blocks × ExtendsLogFromCore c new old_log new_log
