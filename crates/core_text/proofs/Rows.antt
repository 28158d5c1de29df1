-- A worked example: the text of a state without entries and with one child that is to be stopped, while a signal is
-- under way; and the same in version 1.
use Rattle.core_text.proofs.CommonWords.{◌≡◌, refl, true, false, [], ◌∷◌, codes, Some, None, lit<, Exit, Due}
use Rattle.core_text.proofs.CommonWords.{CoreFields, PlainSlot, SavedState, V1, state_text, text_in}
use Rattle.std.proofs.lemmas.Fmt.{decimal_digit}
use Rattle.init_words.specs.declared.actions.Act.TheVariants as act
use Rattle.init_words.specs.declared.levels.Level.TheVariants as level
use Rattle.init_words.specs.declared.orders.OrderKind.TheVariants.{Term}
use Rattle.init_words.specs.declared.stages.Stage.TheVariants as stage
use Rattle.trace_events.specs.CallSets.{no_news}

abbrev left : PlainSlot
left = record {
  id = codes "a";
  child = Some 7;
  act = Some act.Once;
  order = Some Term;
  stop = Some Due;
  asked = false;
  called = false;
  look = true;
  missed = false;
  held_until = None;
  starts = record { items = [] };
  last = Some (Exit 1);
}

abbrev fields : CoreFields
fields = record {
  generation = 1;
  time = 0;
  stage = Some (stage.Run level.L3);
  grace = 5;
  goal = record { level = level.L3; grace = 5 };
  booted = true;
  announced = false;
  reread = true;
  reexec = false;
  level_wish = Some (record { level = level.S; grace = 5 });
  pending = no_news;
}

abbrev example : SavedState
example = record { fields = fields; table = []; records = left ∷ [] }

example_text : state_text example ≡ codes
    "initd-state 2\ngeneration 1\nclock 0\nstage 3 5\ngoal 3 5\nflags 10\nwish 10 S:5 000 000\ntable 0\nslot a 7 once term due 0010 - - exit:1\nend 9\n"
example_text = rw (
  decimal_digit 1 (lit< tt),
  decimal_digit 0 (lit< tt),
  decimal_digit 5 (lit< tt),
  decimal_digit 7 (lit< tt),
  decimal_digit 9 (lit< tt),
) refl

old_text : text_in V1 example ≡ codes
    "initd-state 1\ngeneration 1\nclock 0\nstage 3 5\ngoal 3 5\nflags 10\nwish 10 S:5 000 000\ntable 0\nslot a 7 once term due 0010 - -\nend 9\n"
old_text = rw (
  decimal_digit 1 (lit< tt),
  decimal_digit 0 (lit< tt),
  decimal_digit 5 (lit< tt),
  decimal_digit 7 (lit< tt),
  decimal_digit 9 (lit< tt),
) refl
