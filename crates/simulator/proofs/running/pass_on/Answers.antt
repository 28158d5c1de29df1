use Rattle.simulator.proofs.Words.{sym, ◌∙◌, subst, true, ◌≡◌, ◌∷◌, is_in_range, run_sound, all_on}
use Rattle.trace_events.specs.declared.happenings.Happening.TheVariants as event
use Rattle.simulator.proofs.Hearing.{fits_at, fits_silent, nothing_told}
use Rattle.simulator.proofs.Keeping.{lasts_at, lasts_adopt, lasts_not_read, lasts_told, lasts_clock, lasts_nudge}
use Rattle.simulator.proofs.Keeping.{lasts_got, lasts_hand, lasts_silent}
use Rattle.simulator.proofs.Moves.{said_parts}
use Rattle.simulator.proofs.running.pass_on.Goals as goal

pub returns-in_ok-adopt-in-NewTable-clause-fits : goal.returns-in_ok-adopt-in-NewTable-clause-fits
returns-in_ok-adopt-in-NewTable-clause-fits g c goal past moment may =
    fits_at goal past c.adopt.new.core c.args.happening.now (event.NewTable c.in-NewTable.table) c.in-NewTable.is
    (all_on c.args.core.now c.adopt.new.core goal past (event.NewTable c.in-NewTable.table ∷ past)
    (c.in_ok-adopt-in-NewTable.ensures.fits goal past (run_sound goal past moment.runs) moment.fits.0) moment.fits)

pub returns-in_ok-adopt-in-NewTable-clause-lasts : goal.returns-in_ok-adopt-in-NewTable-clause-lasts
returns-in_ok-adopt-in-NewTable-clause-lasts g c goal past moment may =
    lasts_at goal past c.adopt.new.core c.args.happening.now (event.NewTable c.in-NewTable.table) c.in-NewTable.is
    (lasts_adopt c.args.core.now c.adopt.new.core goal past moment.lasts c.in-NewTable.table
    c.in_ok-adopt-in-NewTable.ensures.state)

pub returns-in-NotRead-clause-fits : goal.returns-in-NotRead-clause-fits
returns-in-NotRead-clause-fits g c goal past moment may =
    fits_at goal past c.not_read.new.self c.args.happening.now event.NotRead c.in-NotRead.is
    (all_on c.args.core.now c.not_read.new.self goal past (event.NotRead ∷ past)
    (c.not_read.ensures.fits goal past (run_sound goal past moment.runs) moment.fits.0) moment.fits)

pub returns-in-NotRead-clause-lasts : goal.returns-in-NotRead-clause-lasts
returns-in-NotRead-clause-lasts g c goal past moment may =
    lasts_at goal past c.not_read.new.self c.args.happening.now event.NotRead c.in-NotRead.is
    (lasts_not_read c.args.core.now c.not_read.new.self goal past moment.lasts c.not_read.ensures.state)

pub returns-in-Some-clause-fits : goal.returns-in-Some-clause-fits
returns-in-Some-clause-fits g c goal past moment may =
    fits_at goal past c.answer-in-Some.new.self c.args.happening.now (event.Told c.in-Told.id) c.in-Told.is
    (all_on c.args.core.now c.answer-in-Some.new.self goal past (event.Told c.in-Told.id ∷ past)
    (c.answer-in-Some.ensures.fits goal past (run_sound goal past moment.runs) moment.fits.0
    (sym (c.answer.ensures past moment.follows) ∙ c.in-Some.is)) moment.fits)

pub returns-in-Some-clause-lasts : goal.returns-in-Some-clause-lasts
returns-in-Some-clause-lasts g c goal past moment may =
    lasts_at goal past c.answer-in-Some.new.self c.args.happening.now (event.Told c.in-Told.id) c.in-Told.is
    (lasts_told c.args.core.now c.answer-in-Some.new.self goal past moment.lasts c.answer-in-Some.result c.in-Told.id
    c.in-Some.answer
    c.answer-in-Some.ensures.told c.answer-in-Some.ensures.unchanged)

-- an answer is under way
pub returns-in_default-answer-clause-fits : goal.returns-in_default-answer-clause-fits
returns-in_default-answer-clause-fits g c goal past moment may =
    absurd (nothing_told goal past c.args.happening.now c.in-Told.id c.in-Told.is may
    (sym c.in_default-answer.is ∙ c.answer.ensures past moment.follows))

pub returns-in_default-answer-clause-lasts : goal.returns-in_default-answer-clause-lasts
returns-in_default-answer-clause-lasts g c goal past moment may =
    absurd (nothing_told goal past c.args.happening.now c.in-Told.id c.in-Told.is may
    (sym c.in_default-answer.is ∙ c.answer.ensures past moment.follows))

pub returns-in-Clock-clause-fits : goal.returns-in-Clock-clause-fits
returns-in-Clock-clause-fits g c goal past moment may =
    fits_at goal past c.clock.new.self c.args.happening.now (event.Clock c.in-Clock.reading) c.in-Clock.is
    (all_on c.args.core.now c.clock.new.self goal past (event.Clock c.in-Clock.reading ∷ past)
    (c.clock.ensures.fits goal past (run_sound goal past moment.runs) moment.fits.0) moment.fits)

pub returns-in-Clock-clause-lasts : goal.returns-in-Clock-clause-lasts
returns-in-Clock-clause-lasts g c goal past moment may =
    lasts_at goal past c.clock.new.self c.args.happening.now (event.Clock c.in-Clock.reading) c.in-Clock.is
    (lasts_clock c.args.core.now c.clock.new.self goal past moment.lasts c.in-Clock.reading c.clock.ensures.state)

pub returns-in-Nudge-clause-fits : goal.returns-in-Nudge-clause-fits
returns-in-Nudge-clause-fits g c goal past moment may =
    fits_at goal past c.nudge.new.self c.args.happening.now event.Nudge c.in-Nudge.is
    (all_on c.args.core.now c.nudge.new.self goal past (event.Nudge ∷ past)
    (c.nudge.ensures.fits goal past (run_sound goal past moment.runs) moment.fits.0) moment.fits)

pub returns-in-Nudge-clause-lasts : goal.returns-in-Nudge-clause-lasts
returns-in-Nudge-clause-lasts g c goal past moment may =
    lasts_at goal past c.nudge.new.self c.args.happening.now event.Nudge c.in-Nudge.is
    (lasts_nudge c.args.core.now c.nudge.new.self goal past moment.lasts c.nudge.ensures.state)

pub returns-in-Got-clause-fits : goal.returns-in-Got-clause-fits
returns-in-Got-clause-fits g c goal past moment may =
    fits_at goal past c.got.new.self c.args.happening.now (event.Got c.in-Got.request) c.in-Got.is
    (all_on c.args.core.now c.got.new.self goal past (event.Got c.in-Got.request ∷ past)
    (c.got.ensures.fits goal past (run_sound goal past moment.runs) moment.fits.0) moment.fits)

pub returns-in-Got-clause-lasts : goal.returns-in-Got-clause-lasts
returns-in-Got-clause-lasts g c goal past moment may =
    lasts_at goal past c.got.new.self c.args.happening.now (event.Got c.in-Got.request) c.in-Got.is
    (lasts_got c.args.core.now c.got.new.self goal past moment.lasts c.in-Got.request moment.fits
    (subst (λ h. is_in_range h ≡ true) c.in-Got.is c.requires.ranged) c.got.ensures.state)

pub returns-in_ok-hand_core-in-Handed-clause-fits : goal.returns-in_ok-hand_core-in-Handed-clause-fits
returns-in_ok-hand_core-in-Handed-clause-fits g c goal past moment may =
    fits_at goal past c.hand_core.new.core c.args.happening.now (event.Handed c.in-Handed.how) c.in-Handed.is
    (all_on c.args.core.now c.hand_core.new.core goal past (event.Handed c.in-Handed.how ∷ past)
    (c.in_ok-hand_core-in-Handed.ensures.fits goal past (run_sound goal past moment.runs) moment.fits.0) moment.fits)

pub returns-in_ok-hand_core-in-Handed-clause-lasts : goal.returns-in_ok-hand_core-in-Handed-clause-lasts
returns-in_ok-hand_core-in-Handed-clause-lasts g c goal past moment may =
    lasts_at goal past c.hand_core.new.core c.args.happening.now (event.Handed c.in-Handed.how) c.in-Handed.is
    (lasts_hand c.args.core.now c.hand_core.new.core goal past moment.lasts c.in-Handed.how
    c.in_ok-hand_core-in-Handed.ensures.state)

pub returns-in_default : goal.returns-in_default
returns-in_default g c = record {
  fits = λ goal past moment may.
      fits_silent goal past c.args.happening.now c.args.core.now c.args.side.now moment may
      (λ table is. c.in_default.not-NewTable table is) (λ is. c.in_default.not-NotRead is)
      (λ id is. c.in_default.not-Told id is) (λ reading is. c.in_default.not-Clock reading is)
      (λ is. c.in_default.not-Nudge is) (λ request is. c.in_default.not-Got request is)
      (λ how is. c.in_default.not-Handed how is);
  lasts = λ goal past moment may.
      lasts_silent c.args.core.now goal past c.args.happening.now moment.lasts
      (said_parts goal c.args.happening.now past may).0
      (λ request is. c.in_default.not-Got request is) (λ how is. c.in_default.not-Handed how is);
  made = c.requires.made;
}
