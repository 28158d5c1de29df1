use Rattle.rc_command.proofs.CommonWords.{rules, ◌≡◌, ◌∙◌, inl, inr, ap, sym, true, false, Global, List, String, map}
use Rattle.rc_command.proofs.CommonWords.{string_bytes, ℕ, true≢false, RcState}
use Rattle.rc_command.proofs.Reported.{dry_known, dry_part, dry_reports, run_names, run_part, run_reports}
use Rattle.rc_command.proofs.running.run_names.Goals as goal

abbrev texts : List (String Global) → List (List ℕ)
texts names = map (λ (name : String Global). string_bytes name) names

pub print_all-requires : goal.print_all-requires
print_all-requires g c = ap (λ (r : RcState). r.waits) c.in-Ok.ensures

pub run_all-requires : goal.run_all-requires
run_all-requires g c = ap (λ (r : RcState). r.waits) c.in-Ok.ensures

pub returns-then-options-clause-statuses : goal.returns-then-options-clause-statuses
returns-then-options-clause-statuses g c = dry_known _ c.print_all.ensures.statuses

pub returns-then-options-clause-done : goal.returns-then-options-clause-done
returns-then-options-clause-done g c =
    let dry : c.args.options.dry ≡ true = search rules in
    dry_reports c.args.options c.args.path.now (texts c.args.previous.now)
    (texts c.args.names.now) _ _ _ _ c.in-Ok.ensures dry c.print_all.ensures.statuses c.print_all.ensures.done

pub returns-then-options-clause-part : goal.returns-then-options-clause-part
returns-then-options-clause-part g c =
    let dry : c.args.options.dry ≡ true = search rules in
    inr (dry_part c.args.options c.args.path.now (texts c.args.previous.now)
    (texts c.args.names.now) _ _ _ c.in-Ok.ensures dry c.print_all.ensures.part)

pub returns-then-options-clause-ran : goal.returns-then-options-clause-ran
returns-then-options-clause-ran g c =
    let dry : c.args.options.dry ≡ true = search rules in
    inr (λ wet. absurd (true≢false (sym dry ∙ wet)))

pub returns-clause-done : goal.returns-clause-done
returns-clause-done g c =
    let wet : c.args.options.dry ≡ false = search rules in
    run_reports c.args.options c.args.path.now (texts c.args.previous.now)
    (texts c.args.names.now) _ _ _ _ _ _ _ _ c.in-Ok.ensures wet c.run_all.ensures.ran

pub returns-clause-part : goal.returns-clause-part
returns-clause-part g c =
    let wet : c.args.options.dry ≡ false = search rules in
    inr (run_part c.args.options c.args.path.now (texts c.args.previous.now)
    (texts c.args.names.now) _ _ _ _ _ _ _ _ c.in-Ok.ensures wet c.run_all.ensures.ran)

pub returns-clause-ran : goal.returns-clause-ran
returns-clause-ran g c =
    inr (λ wet. run_names c.args.options c.args.path.now (texts c.args.previous.now)
    (texts c.args.names.now) _ _ _ _ _ _ _ _ c.in-Ok.ensures c.run_all.ensures.ran)

pub returns-clause-silent : goal.returns-clause-silent
returns-clause-silent g c = λ whole quiet.
    let wet : c.args.options.dry ≡ false = search rules in
    c.run_all.ensures.silent whole (elim quiet [ inl dry ↦ absurd (true≢false (sym dry ∙ wet)) | inr none ↦ none ])
