-- From a folder that holds the links of a plan, exactly these are run.
use Rattle.rc_driver.proofs.LinkWords.{◌≡◌, ℕ, Bool, true, not, List, [], ◌∷◌, ◌++◌, refl, sym, ap, ◌∙◌, arith, dedup}
use Rattle.rc_driver.proofs.LinkWords.{filter}
use Rattle.rc_driver.proofs.LinkWords.{byte, bytes_eq, in_byte_order-moves, one_order, is_link, is_skipped, is_started}
use Rattle.rc_driver.proofs.LinkWords.{rc_run, with_arg}
use Rattle.std.proofs.lemmas.Bool.Decides.{nat_tests}
use Rattle.std.proofs.lemmas.List.{append-nil}
use Rattle.std.proofs.lemmas.List.Elements.{filter-append}
use Rattle.std.proofs.lemmas.List.Sorted.{IsPermutation-append, IsPermutation-trans}
use Rattle.init_words.specs.declared.levels.Level.{Level}
use Rattle.init_words.proofs.Tests.{filter_both}
use Rattle.rc_links.specs.Links.{in_byte_order, link_of, start_links, stop_links}
use Rattle.rc_links.specs.Names.{is_name}
use Rattle.rc_links.specs.PlannedText.{PlannedText}
use Rattle.rc_driver.specs.declared.runs.Arg.TheVariants as arg
use Rattle.rc_driver.specs.Planned.{AreNamed, RunsPlans}

-- a letter, a number with two digits and such a name are a link with the letter
made_link : (letter number : ℕ) (name : List ℕ) → is_name name ≡ true
    → is_link letter (link_of letter number name) ≡ true
made_link letter number name named = grind (arith, nat_tests)

-- of the links of a plan, those that stop services are the K links, and those that start them are the S links
stops-K : (level : Level) (plan : List PlannedText) → AreNamed plan
    → filter (is_link (byte "K")) (stop_links level plan) ≡ stop_links level plan
stops-K level [] named = refl
stops-K level (s ∷ plan) named = grind (arith, made_link (byte "K") s.stop s.name named.0, stops-K level plan named.1)

stops-S : (level : Level) (plan : List PlannedText) → filter (is_link (byte "S")) (stop_links level plan) ≡ []
stops-S level [] = refl
stops-S level (s ∷ plan) = grind (arith, stops-S level plan)

starts-S : (level : Level) (plan : List PlannedText) → AreNamed plan
    → filter (is_link (byte "S")) (start_links level plan) ≡ start_links level plan
starts-S level [] named = refl
starts-S level (s ∷ plan) named =
    grind (arith, made_link (byte "S") s.start s.name named.0, starts-S level plan named.1)

starts-K : (level : Level) (plan : List PlannedText) → filter (is_link (byte "K")) (start_links level plan) ≡ []
starts-K level [] = refl
starts-K level (s ∷ plan) = grind (arith, starts-K level plan)

-- the run of a folder that holds the links of a plan is that of the plan
pub plans_run : (previous new : List (List ℕ)) → RunsPlans previous new (rc_run previous new)
plans_run previous new plan level named moved =
    let stops = stop_links level plan in
    let starts = start_links level plan in
    let kept = λ (p : List ℕ → Bool). one_order p (stops ++ starts) new (IsPermutation-trans (stops ++ starts) _ _
    (IsPermutation-append _ _ _ _ (in_byte_order-moves stops) (in_byte_order-moves starts)) moved) in
    let fresh : List ℕ → Bool = λ link. not (is_skipped previous new link) in
    let all-K = filter-append (is_link (byte "K")) stops starts
    ∙ (λ i. stops-K level plan named i ++ starts-K level plan i) ∙ append-nil stops in
    let all-S = filter-append (is_link (byte "S")) stops starts
    ∙ (λ i. stops-S level plan i ++ starts-S level plan named i) in
    let stopped = kept (is_link (byte "K")) ∙ ap in_byte_order all-K in
    let started = kept (is_started previous new)
    ∙ ap in_byte_order (sym (filter_both fresh (is_link (byte "S")) (stops ++ starts)) ∙ ap (filter fresh) all-S) in
    λ i. with_arg arg.Stop (dedup bytes_eq (stopped i)) ++ with_arg arg.Start (dedup bytes_eq (started i))
