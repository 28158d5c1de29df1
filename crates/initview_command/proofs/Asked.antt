-- The command that the arguments select is carried out.
use Rattle.initview_command.proofs.Words.{◌≡◌, ◌∙◌, [], ◌∷◌, ap, inl, inr, refl, sym, true, false, ℕ, Bool, codes, List}
use Rattle.initview_command.proofs.Words.{Option, Some, None, subst, IsSome, option_and_then, Row, is_simple_and_free}
use Rattle.initview_command.proofs.Words.{DONE, DEVICE_FAULT, KnownTexts, reason_of, KnownOutput, says_nothing}
use Rattle.initview_command.proofs.Words.{PathTexts}
use Rattle.initview_command.proofs.Words.{asked_of, command_line, local_said, paths_of, what_of, words_said, Writes}
use Rattle.initview_command.proofs.Words.{KnownWriters, Does, DoesTimed, EndsAs, EndsFor, EndsOf, EndsOn, EndsWhere}
use Rattle.initview_command.proofs.Words.{Refuses}
use Rattle.initview_command.proofs.Words.{WritesNothing, all_of, timed, Bor, map, option_map, unwrap_or}
use Rattle.std.proofs.lemmas.Option.{none-some}
use Rattle.clap.proofs.OnLiterals.{clap_on_literals}
use Rattle.command_words.specs.CommandLines.{bare_line, given_by, line_of}
use Rattle.command_words.specs.declared.faults.WordFault.{WordFault}
use Rattle.command_words.specs.declared.faults.WordFault.TheVariants.{Usage, Memory}
use Rattle.command_words.specs.VersionLine.{version_line}
use Rattle.initview_lines.specs.declared.lines.Line.TheVariants as line
use Rattle.initview_command.specs.declared.asking.Command.{Command}
use Rattle.initview_command.specs.Refusals.{ReportsRefusal}
use Rattle.program_io.specs.Reports.{ReportList}

-- the command line uses only the features of clap that are specified
pub is_free_line : is_simple_and_free command_line ≡ true
unfolding bare_line line_of clap_on_literals
is_free_line = refl

module _ (text_at growing_at : KnownTexts) (writers : KnownWriters) (status : ℕ) (old new : KnownOutput) where
  -- the outcome if the version is requested
  pub version_done : (words : List (List ℕ)) (asks : Bool) → asks ≡ true
      → Writes (line.Text (version_line (codes "initview")) ∷ []) DONE status old new
      → EndsAs asks text_at growing_at writers words status old new
  version_done words true is printed = printed
  version_done words false is printed = absurd (cc)

  words_done : (words : List (List ℕ)) (asks : Bool) → asks ≡ false
      → EndsOn text_at growing_at writers words status old new
      → EndsAs asks text_at growing_at writers words status old new
  words_done words true is done = absurd (cc)
  words_done words false is done = done

  -- the outcome if clap accepts the arguments, and if it does not
  given_done : (words : List (List ℕ)) (rows : List Row) → given_by command_line words ≡ Some rows
      → EndsOf text_at growing_at writers rows status old new → EndsOn text_at growing_at writers words status old new
  given_done words rows is done =
      inl (subst (λ r. EndsWhere text_at growing_at writers r status old new) (sym is) done)

  -- the outcome for accepted arguments other than `--version`, by the command that they select
  module _ (words : List (List ℕ)) (asks : Bool) (other : asks ≡ false) (rows : List Row)
      (gave : given_by command_line words ≡ Some rows) (given : List (List ℕ)) (are : given ≡ words_said rows) where
    pub ends_for : (asked : Option Command) → asked ≡ what_of rows given
        → EndsFor text_at growing_at writers rows asked status old new
        → EndsAs asks text_at growing_at writers words status old new
    ends_for asked is ends =
        words_done words asks other (given_done words rows gave
        (subst (λ a. EndsFor text_at growing_at writers rows a status old new) (is ∙ ap (what_of rows) are) ends))

    -- the arguments select a command
    module _ (what : Command) (local : Bool) (asked : Some what ≡ what_of rows given) (is : local ≡ local_said rows)
      where
        pub so_done : (middle : KnownOutput) (paths : PathTexts) → paths ≡ paths_of what rows given
            → middle ≡ timed local old → Does text_at growing_at writers paths what status middle new
            → EndsAs asks text_at growing_at writers words status old new
        so_done middle paths named same done =
            ends_for (Some what) asked (subst (λ l. DoesTimed l text_at growing_at writers
            (paths_of what rows (words_said rows)) what status old new) is
            (inl
            (subst (λ now. Does text_at growing_at writers (paths_of what rows (words_said rows)) what status now new)
            same (subst (λ p. Does text_at growing_at writers p what status middle new)
            (named ∙ ap (paths_of what rows) are) done))))

        pub zone_unread : local ≡ true → status ≡ DEVICE_FAULT → WritesNothing old new
            → EndsAs asks text_at growing_at writers words status old new
        zone_unread local_asked failed nothing =
            ends_for (Some what) asked (inr (sym is ∙ local_asked, failed, nothing))

-- the exit statuses for rejected arguments
pub refuses : (status : ℕ) (before after : ReportList) (now : KnownOutput) → ReportsRefusal status before after
    → Refuses status now now
refuses status before after now (inl told) = (inl told.0, says_nothing now)
refuses status before after now (inr told) = (inr told.0, says_nothing now)

pub fault_done : (text_at growing_at : KnownTexts) (writers : KnownWriters) (status : ℕ)
    (before after : ReportList) (now : KnownOutput) (words : List (List ℕ)) (asks : Bool) → asks ≡ false
    → (fault : WordFault) → (IsSome (reason_of fault) → given_by command_line words ≡ None)
    → ReportsRefusal status before after → (fault ≡ Memory → status ≡ DEVICE_FAULT)
    → EndsAs asks text_at growing_at writers words status now now
fault_done text_at growing_at writers status before after now words asks other (Usage reason) none refused memory =
    words_done text_at growing_at writers status now now words asks other
    (inl (subst (λ r. EndsWhere text_at growing_at writers r status now now) (sym (none refl))
    (refuses status before after now refused)))
fault_done text_at growing_at writers status before after now words asks other Memory none refused memory =
    words_done text_at growing_at writers status now now words asks other (inr (memory refl, says_nothing now))

-- arguments that select a command do not select none
pub not_none : (X : Type 0) (words : List (List ℕ)) (rows : List Row) (given : List (List ℕ)) (what : Command)
    → given ≡ words_said rows → given_by command_line words ≡ Some rows → Some what ≡ what_of rows given
    → asked_of words ≡ None → X
not_none X words rows given what are gave asks none =
    absurd (none-some _ (sym none ∙ ap (option_and_then (λ r. what_of r (words_said r))) gave
    ∙ sym (ap (what_of rows) are) ∙ sym asks))

-- the list of words that clap returns, or an empty one, is that of the specification
words_or_none : (given : Option (Bor (List (Bor (List ℕ))))) (none : Bor (List (Bor (List ℕ))))
    (all : Option (List (List ℕ))) → option_map (λ ws. map (λ word. word.now) ws.now) given ≡ all → none.now ≡ []
    → map (λ word. word.now) (unwrap_or given none).now ≡ unwrap_or all []
words_or_none None none all is empty = ap (map (λ word. word.now)) empty ∙ ap (λ words. unwrap_or words []) is
words_or_none (Some words) none all is empty = ap (λ words. unwrap_or words []) is

pub words_given : (rows : List Row) (given : Option (Bor (List (Bor (List ℕ)))))
    (none words : Bor (List (Bor (List ℕ))))
    → words ≡ unwrap_or given none → none.now ≡ []
    → option_map (λ ws. map (λ word. word.now) ws.now) given ≡ all_of (codes "WORD") rows
    → map (λ word. word.now) words.now ≡ words_said rows
words_given rows given none words is empty all =
    ap (λ (ws : Bor (List (Bor (List ℕ)))). map (λ word. word.now) ws.now) is
    ∙ words_or_none given none (all_of (codes "WORD") rows) all empty
