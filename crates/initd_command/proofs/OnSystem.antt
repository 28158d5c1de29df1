-- What a run over the operating system asked of it.
use Rattle.initd_command.proofs.Words.{◌≡◌, refl, sym, subst, ℕ, true, List, [], ◌∷◌, ◌++◌, Option, Some, None}
use Rattle.initd_command.proofs.Words.{Entry, KnownTexts, HostCall, InitdArguments, judges, runs, simulates, version}
use Rattle.initd_command.proofs.Words.{RunArguments, turned, refused, End, CommandLineAsks, MakesTraced, RanBy}
use Rattle.initd_command.proofs.Words.{RunRecord}
use Rattle.initd_command.proofs.Words.{HostSettings, IsOpening, table_in, ⊤}
use Rattle.core_model.specs.State.{CoreState}
use Rattle.supervisor.specs.Turns.{AreTurns}
use Rattle.std.proofs.Common.{◌∙◌, ap, map, ◌≤◌, append-nil}
use Rattle.std.proofs.lemmas.Option.{same_Some}
use Rattle.std.specs.List.{list_all}
use Rattle.init_words.specs.declared.limits.TheConstants.{GRACE}
use Rattle.init_words.specs.Parts.{texts_of}
use Rattle.inittab_text.specs.Tables.{is_distinct}
use Rattle.inittab_text.proofs.Distinct.{distinct_texts}
use Rattle.initctl_frame.specs.Blocks.{requests_in_blocks}
use Rattle.host_calls.specs.declared.calls.Call.TheVariants.{Pause}
use Rattle.host_calls.specs.Held.{HeldChildren}
use Rattle.host_calls.specs.Record.{NewCallsSatisfy}
use Rattle.supervisor.specs.Fronts.{AtEachCall}
use Rattle.supervisor.specs.CallsLead.{IfPossibleFrom, CallsWereInPlace}
use Rattle.supervisor.specs.Requests.{bytes_of}
use Rattle.supervisor.specs.Texts.{are_given_back}
use Rattle.host_system.specs.Asking.{AreSystemCallsFor}
use Rattle.host_system.specs.Systems.{SystemCall}
use Rattle.host_system.specs.Systems.SystemCall.{run}
use Rattle.initd_laws.specs.Requests.{leaves_time}
use Rattle.initd_laws.specs.Signals.{keeps_to_children, kills_warned, numbers_are_new}
use Rattle.initd_laws.proofs.Children.{children_all}
use Rattle.initd_laws.proofs.Killing.{kills_all}
use Rattle.initd_command.proofs.Ran.{some_known}
use Rattle.initd_options.specs.CommandLine.{initd_read_of}
use Rattle.initd_command.specs.Endings.{Ending, done, lawful, stopped, torn, unfinished, unflushed, unlawful}
use Rattle.initd_command.specs.Endings.{unversioned}
use Rattle.initd_command.specs.Endings.{unwritten, usage}
use Rattle.initd_command.specs.Hosts.{HostsState, IsAsked, IsOfSystem}
use Rattle.initd_command.specs.Ran.{ArgumentsAsk, AsksNothing, MakesTurns}

pub targets_kept : (calls : List HostCall) (asked : List SystemCall) → IsAsked calls asked
    → numbers_are_new asked ≡ true → keeps_to_children asked ≡ true
targets_kept calls asked (settings, held, were) numbers = (children_all settings calls held asked were numbers).keeps

-- ---- KILL

-- where no call was made, no signal was sent
helped : (helpers : List (List (List ℕ))) (grace : ℕ) → kills_warned grace (map run helpers ++ []) ≡ true
helped [] grace = refl
helped (words ∷ helpers) grace = helped helpers grace

none_kills : (settings : HostSettings) (held : HeldChildren) (asked : List SystemCall) (grace : ℕ)
    → AreSystemCallsFor settings [] held asked → kills_warned grace asked ≡ true
none_kills settings held asked grace (none, (helpers, is)) = ap (kills_warned grace) is ∙ helped helpers grace

turned_kills : (settings : HostSettings) (service : RunArguments) (table : List Entry) (end : End) (bytes : List ℕ)
    (calls : List HostCall) (held : HeldChildren) (asked : List SystemCall) (grace : ℕ) → is_distinct table ≡ true
    → AreSystemCallsFor settings calls held asked → MakesTraced service table end bytes calls → grace ≤ GRACE
    → numbers_are_new asked ≡ true → list_all (leaves_time grace) (requests_in_blocks (bytes_of calls)) ≡ true
    → are_given_back calls ≡ true → kills_warned grace asked ≡ true
turned_kills settings service table end bytes calls held asked grace distinct were traced opening numbers requests
    given =
    by made.turns.0.0 made.turns.0.2.1
  where
    made : MakesTurns ⊤ service table end calls
    made = traced.0

    by : (cores : List CoreState) → AreTurns service.strict (IsOpening service.level table) cores calls
        → kills_warned grace asked ≡ true
    by [] none = none_kills settings held asked grace (subst (λ cs. AreSystemCallsFor settings cs held asked) none were)
    by (core ∷ cores) (finished, last, before, is, turn, up, rest) =
        let paused = subst (λ cs. AreSystemCallsFor settings cs held asked) is were in
        ap (kills_warned grace) paused.4
        ∙ kills_all settings service.level table Pause (last ++ before) paused.0 paused.1 grace paused.2
        (subst (AtEachCall (IfPossibleFrom (IsOpening service.level table) CallsWereInPlace)) is made.fronts) distinct
        (subst (λ cs. numbers_are_new cs ≡ true) paused.4 numbers)
        (subst (λ cs. are_given_back cs ≡ true) is given) opening
        (subst (λ cs. list_all (leaves_time grace) (requests_in_blocks (bytes_of cs)) ≡ true) is requests)

-- what was told of hosts that had told nothing
since_none : (P : List HostCall → Type 0) (old new : Option (List HostCall)) (calls : List HostCall) → old ≡ Some []
    → new ≡ Some calls → NewCallsSatisfy old new P → P calls
since_none P old new calls none is (made, told, so) =
    let all =
    some_known new calls (λ all. (before : List HostCall) × (old ≡ Some before) × (all ≡ made ++ before)) is told in
    let empty : all.0 ≡ [] = same_Some all.0 [] (sym all.1 ∙ none) in
    subst P (sym (all.2 ∙ ap (λ rest. made ++ rest) empty ∙ append-nil made)) so

pub nothing_kills : (hosts : HostsState) (old new : RunRecord) (grace : ℕ) → old.calls ≡ Some []
    → new.calls ≡ Some hosts.calls → IsAsked hosts.calls hosts.asked → AsksNothing old new
    → kills_warned grace hosts.asked ≡ true
nothing_kills hosts old new grace none told (settings, held, were) same =
    none_kills settings held hosts.asked grace (subst (λ cs. AreSystemCallsFor settings cs held hosts.asked)
    (same_Some hosts.calls [] (sym told ∙ same.0 ∙ none)) were)

pub run_kills : (text_at : KnownTexts) (service : RunArguments) (hosts : HostsState) (ending : Ending)
    (old new : RunRecord) → old.calls ≡ Some [] → new.calls ≡ Some hosts.calls → IsAsked hosts.calls hosts.asked
    → RanBy text_at service (IsOfSystem hosts) ending old new → (grace : ℕ) → grace ≤ GRACE
    → numbers_are_new hosts.asked ≡ true
    → list_all (leaves_time grace) (requests_in_blocks (bytes_of hosts.calls)) ≡ true
    → are_given_back hosts.calls ≡ true → kills_warned grace hosts.asked ≡ true
run_kills text_at service hosts (turned spoken end) old new none told known ran grace opening numbers requests given =
    by ran.2 ran.4
  where
    made : (bytes : List ℕ) × MakesTraced service (table_in ran.0.0) end bytes hosts.calls
    made = (
      ran.0.3.2,
      since_none
          (MakesTraced service (table_in ran.0.0) end ran.0.3.2) old.calls new.calls hosts.calls none told ran.0.3.4,
    )

    by : (settings : Option HostSettings) → IsOfSystem hosts settings → kills_warned grace hosts.asked ≡ true
    by None conforms = absurd conforms
    by (Some settings) conforms = turned_kills settings service (table_in ran.0.0) end made.0 hosts.calls conforms.0.0
        hosts.asked grace (distinct_texts (texts_of ran.0.0)) conforms.0.1 made.1 opening numbers requests given
run_kills text_at service hosts done old new none told known same grace opening numbers requests given =
    nothing_kills hosts old new grace none told known same
run_kills text_at service hosts (usage command why) old new none told known same grace opening numbers requests given =
    nothing_kills hosts old new grace none told known same
run_kills text_at service hosts (refused why) old new none told known same grace opening numbers requests given =
    nothing_kills hosts old new grace none told known same
run_kills text_at service hosts (stopped at why) old new none told known same grace opening numbers requests given =
    nothing_kills hosts old new grace none told known same
run_kills text_at service hosts unflushed old new none told known same grace opening numbers requests given =
    nothing_kills hosts old new grace none told known same
run_kills text_at service hosts (lawful judged) old new none told known same grace opening numbers requests given =
    nothing_kills hosts old new grace none told known same
run_kills text_at service hosts
    (unlawful why judged) old new none told known same grace opening numbers requests given =
    nothing_kills hosts old new grace none told known same
run_kills text_at service hosts (torn line) old new none told known same grace opening numbers requests given =
    nothing_kills hosts old new grace none told known same
run_kills text_at service hosts
    (unfinished count text) old new none told known same grace opening numbers requests given =
    nothing_kills hosts old new grace none told known same
run_kills text_at service hosts unwritten old new none told known same grace opening numbers requests given =
    nothing_kills hosts old new grace none told known same
run_kills text_at service hosts unversioned old new none told known same grace opening numbers requests given =
    nothing_kills hosts old new grace none told known same

pub kills_kept : (text_at : KnownTexts) (words : List (List ℕ)) (hosts : HostsState) (ending : Ending)
    (old new : RunRecord) → old.calls ≡ Some [] → new.calls ≡ Some hosts.calls → IsAsked hosts.calls hosts.asked
    → ArgumentsAsk text_at words (IsOfSystem hosts) ending old new → (grace : ℕ) → grace ≤ GRACE
    → numbers_are_new hosts.asked ≡ true
    → list_all (leaves_time grace) (requests_in_blocks (bytes_of hosts.calls)) ≡ true
    → are_given_back hosts.calls ≡ true → kills_warned grace hosts.asked ≡ true
kills_kept text_at words hosts ending old new none told known asks grace opening numbers requests given =
    by (initd_read_of words) asks
  where
    by : (read : Option InitdArguments) → CommandLineAsks text_at read (IsOfSystem hosts) ending old new
        → kills_warned grace hosts.asked ≡ true
    by (Some (runs service)) ran =
        run_kills text_at service hosts ending old new none told known ran grace opening numbers requests given
    by (Some version) same = nothing_kills hosts old new grace none told known same
    by (Some (simulates arguments)) same = nothing_kills hosts old new grace none told known same
    by (Some (judges arguments)) same = nothing_kills hosts old new grace none told known same
    by None same = nothing_kills hosts old new grace none told known same
