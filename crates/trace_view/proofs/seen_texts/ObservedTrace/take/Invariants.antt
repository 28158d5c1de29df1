use Rattle.trace_view.proofs.Words.{ℕ, List, ◌++◌, ◌^◌, ◌<◌, length, HasSeenText, IsSeeing}
use Rattle.trace_view.proofs.seen_texts.ObservedTrace.take.Given as goal

-- the view is at work on the text with the piece appended
abbrev pub invariant-loop : goal.invariant-loop
invariant-loop g l = (text : List ℕ) → length (text ++ l.piece) < 2 ^ 64 → HasSeenText g.S.TraceObserver.has_seen
    l.fn.self text → IsSeeing g.S.TraceObserver.has_seen l.self (text ++ l.piece)

abbrev pub decreases-loop : goal.decreases-loop
decreases-loop g l = length l.self.viewing.reading.over
