-- What a host asked of the system.
use Rattle.std.proofs.Common.{◌≡◌, refl, ◌∙◌, ap, ℕ, Bool, List, [], ◌∷◌, ◌++◌, map, Option, Some, None, Result}
use Rattle.std.proofs.Common.{Ok, Err, inl, inr}
use Rattle.std.specs.Result.{IsErr}
use Rattle.init_words.specs.declared.orders.Answer.TheVariants.{NotBorn}
use Rattle.host_system.specs.Asking.{AreStarted, RunsHelpers, StartRequests}
use Rattle.host_system.specs.Commands.{launched, words_run}
use Rattle.host_system.specs.Systems.{SystemCall, start_answer}
use Rattle.host_system.specs.Systems.SystemCall.{run}

started_as : (logs : Option (List ℕ)) (groups : Bool) (delay : ℕ) (id text : List ℕ)
    → AreStarted logs groups delay id text (launched groups delay (words_run text))
started_as None groups delay id text = refl
started_as (Some folder) groups delay id text = inr refl

-- if nothing was asked, `NotBorn` is the right answer to a start
pub not_started : (logs : Option (List ℕ)) (groups : Bool) (delay : ℕ) (id text : List ℕ) (asked : List SystemCall)
    → StartRequests logs groups delay id text NotBorn asked asked
not_started logs groups delay id text asked =
    (launched groups delay (words_run text), started_as logs groups delay id text, inl refl)

pub unstarted : {E : Type 0} (logs : Option (List ℕ)) (groups : Bool) (delay : ℕ) (id text : List ℕ)
    (outcome : Result ℕ E) (asked : List SystemCall)
    → IsErr outcome → StartRequests logs groups delay id text (start_answer outcome) asked asked
unstarted logs groups delay id text (Err why) asked failed = not_started logs groups delay id text asked
unstarted logs groups delay id text (Ok number) asked failed = absurd (cc)

-- a single run of a program is a run of helpers
pub one_helper : (words : List (List ℕ)) (old new : List SystemCall) → new ≡ run words ∷ old → RunsHelpers old new
one_helper words old new ran = (words ∷ [], ran)

map_more : (more helpers : List (List (List ℕ))) (asked : List SystemCall)
    → map run more ++ (map run helpers ++ asked) ≡ map run (more ++ helpers) ++ asked
map_more [] helpers asked = refl
map_more (words ∷ more) helpers asked = ap (λ calls. run words ∷ calls) (map_more more helpers asked)

-- helpers that are run after helpers are helpers
pub more_helpers : (first old between new : List SystemCall) → first ≡ old → RunsHelpers first between
    → RunsHelpers between new → RunsHelpers old new
more_helpers first old between new is some more = (
  more.0 ++ some.0,
  more.1 ∙ ap (λ calls. map run more.0 ++ calls) (some.1 ∙ ap (λ calls. map run some.0 ++ calls) is)
      ∙ map_more more.0 some.0 old,
)
