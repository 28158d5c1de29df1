-- How the process of an inittab entry is started (inittab(5)).
use Rattle.std.specs.Prelude.{ℕ, Bool, true, if◌then◌else◌, ◌==◌, List, [], ◌∷◌, ◌++◌, codes, decimal, Option}
use Rattle.std.specs.Prelude.{Some, None, Box}
use Rattle.std.specs.List.{list_any}
use Rattle.std.specs.Process.{command_program, command_args}
use Rattle.std.specs.declared.process.command.Command.{Command}
use Rattle.text_lines.specs.Lines.{words_of}

-- a character in a process text that makes a shell execute the text
abbrev pub is_shell_byte : ℕ → Bool
is_shell_byte byte = list_any (λ b. b == byte) (codes "~`!$^&*()=|\\{}[];\"'<>?")

-- the text has a character that makes a shell execute it
abbrev pub needs_shell : List ℕ → Bool
needs_shell text = list_any is_shell_byte text

-- the arguments that start a process text, beginning with the program: a shell that becomes the process, or the words
-- of the text
abbrev pub words_run : List ℕ → List (List ℕ)
words_run text =
    if needs_shell text then codes "sh" ∷ codes "-c" ∷ (codes "exec " ++ text) ∷ [] else words_of text

-- the arguments of a command, beginning with the program
abbrev pub words_in : {A : Type 0} → Command A → List (List ℕ)
words_in command = command_program command ∷ command_args command

-- the arguments of a command on the heap, beginning with the program; none if there is no command
abbrev pub words_at : {A : Type 0} → Option (Box (Command A) A) → List (List ℕ)
words_at (Some command) = words_in command.value
words_at None = []

-- the arguments to start, preceded, if children have process groups, by setsid(1), which creates a session and becomes
-- the program
abbrev pub in_session : Bool → List (List ℕ) → List (List ℕ)
in_session true (program ∷ args) = codes "setsid" ∷ codes "--" ∷ program ∷ args
in_session _ words = words

-- The script of a shell that sleeps for the number of seconds in its first argument, and then becomes the program that
-- the other arguments start. TERM ends it at once, with its sleep(1).
abbrev pub waiting : List ℕ
waiting = codes "trap '{ kill -KILL $!; wait; } 2>/dev/null; trap - TERM; kill $$' TERM; "
    ++ codes "sleep \"$1\" & wait; trap - TERM; shift; exec \"$@\""

-- the arguments to start after this number of seconds: those of a shell that sleeps first, or unchanged if the number
-- is 0
abbrev pub delayed : ℕ → List (List ℕ) → List (List ℕ)
delayed delay [] = []
delayed delay (program ∷ args) =
    if delay == 0 then program ∷ args
    else codes "sh" ∷ codes "-c" ∷ waiting ∷ codes "sh" ∷ decimal delay ∷ program ∷ args

-- the arguments to start after a delay, in a new session if children have process groups
abbrev pub launched : Bool → ℕ → List (List ℕ) → List (List ℕ)
launched groups delay words = in_session groups (delayed delay words)

-- the arguments to start with the output appended to the log, by a shell that becomes the process
abbrev pub logged : List ℕ → List (List ℕ) → List (List ℕ)
logged log [] = []
logged log (program ∷ args) = codes "sh" ∷ codes "-c" ∷ codes "exec \"$@\" >>\"$0\" 2>&1" ∷ log ∷ program ∷ args

-- the arguments that start a process text with its output in the log: a shell executes the text, or starts its words
abbrev pub words_logged : List ℕ → List ℕ → List (List ℕ)
words_logged log text =
    if needs_shell text
    then codes "sh" ∷ codes "-c" ∷ (codes "exec >>\"$0\" 2>&1\nexec " ++ text) ∷ log ∷ []
    else logged log (words_of text)
