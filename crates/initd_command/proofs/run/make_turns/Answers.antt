use Rattle.initd_command.proofs.Words.{◌≡◌, ℕ, Bool, true, not, refl, sym, ◌∙◌, ap, subst, reverse, [], None, List}
use Rattle.initd_command.proofs.Words.{Event, Served, IsJudgementOf, Judgement, Notes, AreNotesOf, Watched}
use Rattle.initd_command.proofs.Words.{watched_state, run_of}
use Rattle.initd_command.proofs.Words.{waiting_text, AreNotesOfRun, LogEnds, TurnsFrom, end_of, noted_of}
use Rattle.supervisor.specs.Edges.{EdgeState, calls_of}
use Rattle.supervisor.proofs.Told.{NewCallsSatisfy-edge, had_each, with_logs, with_logs-calls, with_logs-had}
use Rattle.supervisor.specs.Arriving.{AreObservedTurns}
use Rattle.initd_command.proofs.Noted.{is_served, judged_still, led_fits, noted_over, served_still}
use Rattle.initd_command.proofs.run.make_turns.Goals as goal

pub returns-clause-ended : goal.returns-clause-ended
returns-clause-ended g c =
    let service = run_of c.args.options.now in
    let state = g.L.Log.state in
    let has_ended = g.L.EndedLog.has_ended c.end-log_end.result.0 in
    let notes = c.into_parts-log.result.1 in
    let found = c.into_parts-log.result.2 in
    let began : c.new-edge.result.log ≡ c.new-watched.result =
    ap (λ (e : EdgeState _ (Watched _)). e.log) c.new-edge.ensures in
    let first = watched_state state c.new-edge.result.log in
    let fresh : (state c.args.log).taken [] → first.taken [] = λ none. subst
    (λ (w : Watched _). (watched_state state w).taken []) (sym began) (c.new-watched.ensures.nothing none) in
    let result = subst (λ (w : Watched _). w.notes.wanted ≡ service.result) (sym began) c.new-watched.ensures.wanted in
    let noted = noted_of notes (waiting_text c.serve-core.result.1.value) c.then_some-judgement.result in
    let most = is_served service c.serve-core.result.0 c.ended_with-served.result _ c.ended_with-served.ensures
    (c.serve-core.ensures.most, c.serve-core.ensures.fewer) in
    let asked = judged_still service found c.then_some-judgement.result c.then_some-judgement.ensures in
    let last = c.serve-core.new.edge in
    let now = watched_state state last.log in
    let given : c.into_parts-host.result.1 ≡ last.log =
    ap (λ (parts : _ × Watched _). parts.1) c.into_parts-host.ensures in
    let parts = c.into_parts-log.ensures.parts ∙ ap (λ (w : Watched _). (w.log, w.notes, w.judgement)) given in
    let tells : (trace : List Event) → now.taken trace
    → AreNotesOf notes (reverse trace) × IsJudgementOf found (reverse trace) × has_ended c.end-log_end.result.1 trace =
    λ trace took. (
      subst (λ (p : _ × Notes × Judgement). AreNotesOf p.1 (reverse trace)) (sym parts) took.0,
      c.into_parts-log.ensures.found trace
          (subst (λ (w : Watched _). (watched_state state w).taken trace) (sym given) took),
      c.end-log_end.ensures.ended trace
          (subst (λ (p : _ × Notes × Judgement). (state p.0).taken trace) (sym parts) took.2),
    ) in (
      end_of service noted c.ended_with-served.result,
      (rw c.deref.ensures at c.report_end-status.ensures.status),
      (c.ended_with-served.result, noted, refl, most, asked),
      (rw c.deref.ensures at c.report_end-status.ensures.reported),
      λ table opens. NewCallsSatisfy-edge g.H.Host.told c.args.host c.into_parts-host.result.0 c.new-watched.result
          c.new-edge.result last _ _ c.new-edge.ensures c.law_of_calls.ensures (ap (λ (parts : _ × Watched _). parts.0)
          c.into_parts-host.ensures) (c.serve-core.ensures.trace service.level table opens) (λ made_calls made.
          let calls = calls_of made_calls in
          let over : (state c.args.log).taken [] → TurnsFrom service.level table calls
          (λ past. (c.ended_with-served.result.logged ≡ true → AreNotesOfRun service.result noted past)
          × LogEnds has_ended c.ended_with-served.result.logged (reverse past)) =
          λ none. noted_over has_ended notes found c.end-log_end.result.1 c.serve-core.result.1.value first now service
          service.level table c.serve-core.result.0 c.ended_with-served.result c.then_some-judgement.result calls
          c.ended_with-served.ensures c.then_some-judgement.ensures (fresh none) result (ap (λ (p : _ × Notes
          × Judgement). p.1.wanted) parts) c.serve-core.ensures.logged tells opens.distinct made.1 in (
            record {
              served = c.ended_with-served.result;
              noted = noted;
              turns = served_still (λ (turns : ℕ)
                  (drained : Bool).
                  AreObservedTurns service.strict service.drain service.level table turns None None calls)
                  c.serve-core.result.0 c.ended_with-served.result _ c.ended_with-served.ensures made.0;
              fronts = λ later earlier next call is apart goal p sound opening allowed.
                  let led = made.2 later earlier next call is apart goal p sound opening allowed in
                  (led.0, λ carried. (led.1 carried).0);
              drains = λ is allowed carried. (
                c.serve-core.result.1.value,
                led_fits service.level table c.serve-core.result.1.value first now calls opens.distinct made.1 allowed
                    carried,
                sym c.serve-core.ensures.drained
                    ∙ (sym (ap (λ (s : Served). s.drained) c.ended_with-served.ensures) ∙ is),
              );
              notes = λ none whole allowed carried. (over none allowed carried).0 whole;
              most = most;
              asked = asked;
              ends = refl;
            },
            λ none allowed carried. (over none allowed carried).1,
            λ none. record {
              made_calls = with_logs (λ (w : Watched _). w.log) made_calls;
              same = with_logs-calls (λ (w : Watched _). w.log) made_calls;
              had = with_logs-had (λ (w : Watched _). w.log) (watched_state state) state _ (λ log works. works)
                  (λ log trace took. took.2) made_calls
                  (had_each (watched_state state) _ first made_calls (fresh none) made.3);
            },
          )),
    )

pub returns-clause-settings : goal.returns-clause-settings
returns-clause-settings g c =
    ap (λ (parts : _ × Watched _). g.H.Host.settings parts.0) c.into_parts-host.ensures
    ∙ (c.serve-core.ensures.settings
    ∙ ap (λ (e : EdgeState _ (Watched _)). g.H.Host.settings e.host) c.new-edge.ensures)
