use Rattle.initd_command.proofs.Words.{◌≡◌, refl, sym, subst, List, [], ◌∷◌, ℕ, unwrap_or, RunArguments, run_of}
use Rattle.initd_command.proofs.Words.{IsRunObstacle}
use Rattle.initd_command.proofs.Words.{AppearInOrder, run_paths}
use Rattle.initd_command.proofs.Ended.{handed_on}
use Rattle.initd_command.proofs.run.refuse_shared.Goals as goal

stands : (service : RunArguments) (one other a b : List ℕ) → one ≡ a → other ≡ b → AppearInOrder a b (run_paths service)
    → AppearInOrder one other (run_paths service)
stands service one other a b is was stand = subst (λ x. AppearInOrder x other (run_paths service)) (sym is)
    (subst (λ y. AppearInOrder a y (run_paths service)) (sym was) stand)

pub returns-in_err-refuse_pair-clause-refused : goal.returns-in_err-refuse_pair-clause-refused
returns-in_err-refuse_pair-clause-refused g c = λ text_at.
    let service = run_of c.args.options.now in
    handed_on c.from_residual.result c.in_err-refuse_pair.field-0.0
    (IsRunObstacle text_at service) c.from_residual.ensures.1
    (c.in_err-refuse_pair.ensures.refused text_at service (stands service c.as_str-inittab.result.now
    c.as_str-initctl.result.now service.inittab service.initctl c.as_str-inittab.ensures.value
    c.as_str-initctl.ensures.value ([], [], service.state ∷ unwrap_or service.trace [] ∷ [], refl)))

pub returns-in_err-refuse_pair-2-clause-refused : goal.returns-in_err-refuse_pair-2-clause-refused
returns-in_err-refuse_pair-2-clause-refused g c = λ text_at.
    let service = run_of c.args.options.now in
    handed_on c.from_residual-in_err-refuse_pair-2.result c.in_err-refuse_pair-2.field-0.0
    (IsRunObstacle text_at service) c.from_residual-in_err-refuse_pair-2.ensures.1
    (c.in_err-refuse_pair-2.ensures.refused text_at service (stands service c.as_str-inittab.result.now
    c.as_str-state.result.now service.inittab service.state c.as_str-inittab.ensures.value c.as_str-state.ensures.value
    ([], service.initctl ∷ [], unwrap_or service.trace [] ∷ [], refl)))

pub returns-in_err-refuse_pair-3-clause-refused : goal.returns-in_err-refuse_pair-3-clause-refused
returns-in_err-refuse_pair-3-clause-refused g c = λ text_at.
    let service = run_of c.args.options.now in
    handed_on c.from_residual-in_err-refuse_pair-3.result c.in_err-refuse_pair-3.field-0.0
    (IsRunObstacle text_at service) c.from_residual-in_err-refuse_pair-3.ensures.1
    (c.in_err-refuse_pair-3.ensures.refused text_at service
    (stands service c.as_str-inittab.result.now c.trace_of-trace.result.now service.inittab (unwrap_or service.trace [])
    c.as_str-inittab.ensures.value c.trace_of-trace.ensures ([], service.initctl ∷ service.state ∷ [], [], refl)))

pub returns-in_err-refuse_pair-4-clause-refused : goal.returns-in_err-refuse_pair-4-clause-refused
returns-in_err-refuse_pair-4-clause-refused g c = λ text_at.
    let service = run_of c.args.options.now in
    handed_on c.from_residual-in_err-refuse_pair-4.result c.in_err-refuse_pair-4.field-0.0
    (IsRunObstacle text_at service) c.from_residual-in_err-refuse_pair-4.ensures.1
    (c.in_err-refuse_pair-4.ensures.refused text_at service (stands service c.as_str-initctl.result.now
    c.as_str-state.result.now service.initctl service.state c.as_str-initctl.ensures.value c.as_str-state.ensures.value
    (service.inittab ∷ [], [], unwrap_or service.trace [] ∷ [], refl)))

pub returns-in_err-refuse_pair-5-clause-refused : goal.returns-in_err-refuse_pair-5-clause-refused
returns-in_err-refuse_pair-5-clause-refused g c = λ text_at.
    let service = run_of c.args.options.now in
    handed_on c.from_residual-in_err-refuse_pair-5.result c.in_err-refuse_pair-5.field-0.0
    (IsRunObstacle text_at service) c.from_residual-in_err-refuse_pair-5.ensures.1
    (c.in_err-refuse_pair-5.ensures.refused text_at service
    (stands service c.as_str-initctl.result.now c.trace_of-trace.result.now service.initctl (unwrap_or service.trace [])
    c.as_str-initctl.ensures.value c.trace_of-trace.ensures (service.inittab ∷ [], service.state ∷ [], [], refl)))

pub returns-clause-refused : goal.returns-clause-refused
returns-clause-refused g c = λ text_at.
    let service = run_of c.args.options.now in
    c.refuse_pair-6.ensures.refused text_at service
    (stands service c.as_str-state.result.now c.trace_of-trace.result.now service.state (unwrap_or service.trace [])
    c.as_str-state.ensures.value c.trace_of-trace.ensures (service.inittab ∷ service.initctl ∷ [], [], [], refl))
