use Rattle.trace_log_wrappers.proofs.Words.{◌∷◌, [], rules, sym, subst, List, reverse, ◌++◌, reverse-append, Event}
use Rattle.trace_log_wrappers.proofs.Words.{AreNotesOf}
use Rattle.trace_log_wrappers.specs.Judgements.{JudgedSoFar}
use Rattle.trace_log_wrappers.proofs.watched_logs.NotingLogLog.take.Goals as goal

pub returns-clause-ok : goal.returns-clause-ok
returns-clause-ok g c = λ ranged before kept. (noted before (search rules), found before (search rules), search rules)
  where
    behind : (P : List Event → Type 0) (before : List Event) → P (c.args.happening.now ∷ reverse before)
        → P (reverse (before ++ c.args.happening.now ∷ []))
    behind P before so = subst P (sym (reverse-append before (c.args.happening.now ∷ []))) so

    noted : (before : List Event) → AreNotesOf c.self.inside.notes (reverse before)
        → AreNotesOf c.note-2.new.self (reverse (before ++ c.args.happening.now ∷ []))
    noted before of = behind (AreNotesOf c.note-2.new.self) before (c.note-2.ensures.notes (reverse before) of)

    found : (before : List Event) → JudgedSoFar c.self.inside.judge c.self.inside.judgement (reverse before)
        → JudgedSoFar
        c.with_next-self-inside.new.judge c.with_next-self-inside.result (reverse (before ++ c.args.happening.now ∷ []))
    found before of = behind (JudgedSoFar c.with_next-self-inside.new.judge c.with_next-self-inside.result) before
        (c.with_next-self-inside.ensures (reverse before) of)
