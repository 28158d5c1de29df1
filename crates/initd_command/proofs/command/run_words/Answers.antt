use Rattle.initd_command.proofs.Words.{◌≡◌, refl, sym, subst, rules, inl, inr, List, ℕ, Option, Some, None, map}
use Rattle.initd_command.proofs.Words.{string_bytes, Keeps-refl, KnownTexts, InitdArguments, check_of, judges}
use Rattle.initd_command.proofs.Words.{initd_read_of}
use Rattle.initd_command.proofs.Words.{simulation_of, simulates, runs, version, RunArguments, run_of, HostCall, Ending}
use Rattle.initd_command.proofs.Words.{refused, usage, usage_named, ArgumentsAsk, CommandLineAsks, RunRecord}
use Rattle.initd_command.proofs.Words.{HostSettings}
use Rattle.initd_command.specs.Runs.{ArgumentsEnd, ParsedArgumentsEnd}
use Rattle.initd_command.specs.declared.run.Obstacle.TheVariants.{Memory}
use Rattle.initd_command.proofs.Ran.{none_asked}
use Rattle.initd_command.proofs.command.run_words.Goals as goal

-- arguments that were read end, and ask hosts, as they say
by_words : (text_at : KnownTexts) (words : List (List ℕ)) (options : Option InitdArguments)
    (conforms : Option HostSettings → Type 0) (ending : Ending) (old new : RunRecord)
    → initd_read_of words ≡ options → ParsedArgumentsEnd text_at words options ending old.out new.out
    → CommandLineAsks text_at options conforms ending old new
    → ArgumentsEnd text_at words ending old.out new.out × ArgumentsAsk text_at words conforms ending old new
by_words text_at words options conforms ending old new is ends asks = (
  inr (subst (λ s. ParsedArgumentsEnd text_at words s ending old.out new.out) (sym is) ends),
  subst (λ s. CommandLineAsks text_at s conforms ending old new) (sym is) asks,
)

abbrev told : Option (List RunArguments) → Option (List HostCall) → List ℕ → Option (List ℕ) → RunRecord
told opened calls trace out = record { opened = opened; calls = calls; trace = trace; out = out }

pub returns-in-Ok-Simulate : goal.returns-in-Ok-Simulate
returns-in-Ok-Simulate g c =
    let (ending, status, ends, reported) = c.simulate_files.ensures in
    let is : initd_read_of (map string_bytes c.args.words.items)
    ≡ Some (simulates (simulation_of c.in-Ok-Simulate.options)) = search rules in
    let so = by_words (g.T.Texts.text_at c.args.texts.now) (map string_bytes c.args.words.items)
    (Some (simulates (simulation_of c.in-Ok-Simulate.options))) (g.S.Hosts.conforms c.args.hosts.now) ending
    (told (g.S.Hosts.opened c.args.hosts.now) (g.S.Hosts.told c.args.hosts.now) (g.F.Traces.told c.args.traces.now)
    (g.W.Write.contents c.args.out.now))
    (told (g.S.Hosts.opened c.args.hosts.now) (g.S.Hosts.told c.args.hosts.now) (g.F.Traces.told c.args.traces.now)
    (g.W.Write.contents c.simulate_files.new.out)) is ends (refl, refl) in
    (ending, status, so.0, reported, so.1)

pub returns-in-Ok-Check : goal.returns-in-Ok-Check
returns-in-Ok-Check g c =
    let (ending, status, ends, reported) = c.check_files.ensures in
    let is : initd_read_of (map string_bytes c.args.words.items) ≡ Some (judges (check_of c.in-Ok-Check.options)) =
    search rules in
    let so = by_words (g.T.Texts.text_at c.args.texts.now) (map string_bytes c.args.words.items)
    (Some (judges (check_of c.in-Ok-Check.options))) (g.S.Hosts.conforms c.args.hosts.now) ending
    (told (g.S.Hosts.opened c.args.hosts.now) (g.S.Hosts.told c.args.hosts.now) (g.F.Traces.told c.args.traces.now)
    (g.W.Write.contents c.args.out.now))
    (told (g.S.Hosts.opened c.args.hosts.now) (g.S.Hosts.told c.args.hosts.now) (g.F.Traces.told c.args.traces.now)
    (g.W.Write.contents c.check_files.new.out)) is ends (refl, refl) in
    (ending, status, so.0, reported, so.1)

pub returns-in-Ok-Run : goal.returns-in-Ok-Run
returns-in-Ok-Run g c =
    let (ending, status, ends, reported, ran) = c.run_files.ensures in
    let is : initd_read_of (map string_bytes c.args.words.items) ≡ Some (runs (run_of c.in-Ok-Run.options)) =
    search rules in
    let so = by_words (g.T.Texts.text_at c.args.texts.now) (map string_bytes c.args.words.items)
    (Some (runs (run_of c.in-Ok-Run.options))) (g.S.Hosts.conforms c.run_files.new.hosts) ending
    (told (g.S.Hosts.opened c.args.hosts.now) (g.S.Hosts.told c.args.hosts.now) (g.F.Traces.told c.args.traces.now)
    (g.W.Write.contents c.args.out.now))
    (told (g.S.Hosts.opened c.run_files.new.hosts) (g.S.Hosts.told c.run_files.new.hosts)
    (g.F.Traces.told c.run_files.new.traces) (g.W.Write.contents c.run_files.new.out)) is ends ran in
    (ending, status, so.0, reported, so.1)

pub returns-in-Ok-Version : goal.returns-in-Ok-Version
returns-in-Ok-Version g c =
    let (ending, status, ends, reported) = c.tell_version.ensures in
    let is : initd_read_of (map string_bytes c.args.words.items) ≡ Some (version) = search rules in
    let so = by_words (g.T.Texts.text_at c.args.texts.now) (map string_bytes c.args.words.items) (Some (version))
    (g.S.Hosts.conforms c.args.hosts.now) ending
    (told (g.S.Hosts.opened c.args.hosts.now) (g.S.Hosts.told c.args.hosts.now) (g.F.Traces.told c.args.traces.now)
    (g.W.Write.contents c.args.out.now))
    (told (g.S.Hosts.opened c.args.hosts.now) (g.S.Hosts.told c.args.hosts.now) (g.F.Traces.told c.args.traces.now)
    (g.W.Write.contents c.tell_version.new.out)) is ends (refl, refl) in
    (ending, status, so.0, reported, so.1)

pub returns-in-Err-Usage : goal.returns-in-Err-Usage
returns-in-Err-Usage g c =
    let none : initd_read_of (map string_bytes c.args.words.items) ≡ None = search rules in
    let reason = c.as_str.result.now in
    let end = usage (usage_named (map string_bytes c.args.words.items)) reason in
    let now = told (g.S.Hosts.opened c.args.hosts.now) (g.S.Hosts.told c.args.hosts.now)
    (g.F.Traces.told c.args.traces.now) (g.W.Write.contents c.args.out.now) in
    let so = by_words (g.T.Texts.text_at c.args.texts.now) (map string_bytes c.args.words.items) None
    (g.S.Hosts.conforms c.args.hosts.now) end now now none
    (reason, refl, Keeps-refl (g.W.Write.contents c.args.out.now)) (refl, refl) in (
      end,
      c.report_refused.ensures.status,
      so.0,
      rw c.as_slice-in-Err-Usage.ensures.value at c.report_refused.ensures.reported,
      so.1,
    )

pub returns : goal.returns
returns g c =
    let now : RunRecord = told (g.S.Hosts.opened c.args.hosts.now) (g.S.Hosts.told c.args.hosts.now)
    (g.F.Traces.told c.args.traces.now) (g.W.Write.contents c.args.out.now) in (
      refused Memory,
      c.report_memory.ensures.status,
      inl (refl, Keeps-refl (g.W.Write.contents c.args.out.now)),
      c.report_memory.ensures.reported,
      none_asked (g.T.Texts.text_at c.args.texts.now) (initd_read_of (map string_bytes c.args.words.items))
          (g.S.Hosts.conforms c.args.hosts.now) now,
    )
