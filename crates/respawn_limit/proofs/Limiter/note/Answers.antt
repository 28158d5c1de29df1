use Rattle.respawn_limit.proofs.Words.{◌≡◌, ◌++◌, ◌∷◌, [], rules, subst, IsNonDecreasing, LimiterState, last_starts}
use Rattle.respawn_limit.proofs.WindowLemmas.{length-last_starts, IsNonDecreasing-last_starts, IsNonDecreasing-push}
use Rattle.respawn_limit.proofs.WindowLemmas.{KeepsLastStarts-push}
use Rattle.respawn_limit.proofs.PastLemmas.{IsStateAfter-Noted, is_run-Noted}
use Rattle.respawn_limit.proofs.Limiter.note.Goals as goal

pub invariant_of-self : goal.invariant_of-self
invariant_of-self c =
    let kept : c.push.new.self.items ≡ last_starts (c.args.self.now.starts ++ c.args.now ∷ []) = search rules in
    let ordered : IsNonDecreasing c.args.self.now.starts =
    subst (λ (l : LimiterState). IsNonDecreasing l.starts) c.self.view_is c.self.invariant.1 in
    rw kept (
      length-last_starts (c.args.self.now.starts ++ c.args.now ∷ []),
      IsNonDecreasing-last_starts (c.args.self.now.starts ++ c.args.now ∷ [])
          (IsNonDecreasing-push c.args.self.now.starts c.args.now ordered c.requires.late),
    )

pub returns-clause-noted : goal.returns-clause-noted
returns-clause-noted c = λ noted known.
    let kept : c.push.new.self.items ≡ last_starts (c.args.self.now.starts ++ c.args.now ∷ []) = search rules in
    rw kept (KeepsLastStarts-push c.args.self.now.starts noted c.args.now known c.requires.late)

pub returns-clause-past : goal.returns-clause-past
returns-clause-past c = λ past stands.
    IsStateAfter-Noted c.args.self.now _ past c.args.now stands c.requires.late (search rules)

pub returns-clause-run : goal.returns-clause-run
returns-clause-run c =
    λ past stands run late. is_run-Noted c.args.self.now past c.args.now stands c.requires.allowed run late
