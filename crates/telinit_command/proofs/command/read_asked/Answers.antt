use Rattle.std.proofs.Common.{rules, ◌≡◌, refl, ap, ◌∙◌, ℕ, List, map, Option, None, Some, string_bytes}
use Rattle.std.specs.Prelude.{option_and_then, option_map}
use Rattle.initctl_frame.specs.declared.requests.Request.{Request}
use Rattle.initctl_frame.specs.Frames.{block_of}
use Rattle.telinit_command.specs.CommandLine.{TelinitArguments, request_of, arguments_of, words_of, words_read_of}
use Rattle.telinit_command.proofs.command.read_asked.Goals as goal

asked_by : (path : List ℕ) (asked : Option Request) (block : List ℕ) → Some block ≡ option_map block_of asked
    → (arguments : TelinitArguments)
    × option_map (λ (a : Request). record { path = path; request = a }) asked ≡ Some arguments
    × path ≡ arguments.path × block_of arguments.request ≡ block
asked_by path None block is = absurd (cc)
asked_by path (Some a) block is = (record { path = path; request = a }, refl, refl, cc)

pub returns-in-Some-clause-ok : goal.returns-in-Some-clause-ok
returns-in-Some-clause-ok c =
    let arguments = words_of c.in_ok-words.words in
    let read : words_read_of c.args.home.now (map string_bytes c.args.words.items) ≡ Some arguments = search rules in
    let framed : Some c.in-Some.block ≡ option_map block_of (request_of arguments) = search rules in
    let asked = asked_by (string_bytes c.in_ok-words.words.path) (request_of arguments) c.in-Some.block framed in
    (asked.0, ap (option_and_then arguments_of) read ∙ asked.1, asked.2, asked.3)
