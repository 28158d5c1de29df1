-- What init does, and what it receives, keeps the seconds of its core at most 3,600, and keeps its generation.
use Rattle.supervisor.proofs.Words.{◌≡◌, refl, ap, ◌∙◌, ℕ, true, List, Entry, HeardRequest, Step, is_request, decide}
use Rattle.supervisor.proofs.Words.{CoreState, after_adopt, after_clock, after_got, after_handed, after_not_read}
use Rattle.supervisor.proofs.Words.{after_round, after_step, KeepsSecondsAndGeneration}
use Rattle.reexec_state.proofs.Lasting as lasting
use Rattle.supervisor.proofs.Carried.{lasts_as}
use Rattle.reexec_state.proofs.Generations.{request_same, step_same}

pub step_lasts : (c new : CoreState) (made : Step) → made ≡ decide c → new ≡ after_step made c
    → KeepsSecondsAndGeneration c new
step_lasts c new made is after = lasts_as c new (after_step (decide c) c) (after ∙ ap (λ s. after_step s c) is)
    (lasting.step_lasts c) (step_same (decide c) c)

pub request_lasts : (c new : CoreState) (request : HeardRequest) → is_request request ≡ true → new ≡ after_got request c
    → KeepsSecondsAndGeneration c new
request_lasts c new request asks after =
    lasts_as c new (after_got request c) after (lasting.request_lasts request c asks) (request_same request c)

pub clock_lasts : (c new : CoreState) (reading : ℕ) → new ≡ after_clock reading c → KeepsSecondsAndGeneration c new
clock_lasts c new reading after = lasts_as c new (after_clock reading c) after (λ short. short) refl

pub round_lasts : (c new : CoreState) → new ≡ after_round c → KeepsSecondsAndGeneration c new
round_lasts c new after = lasts_as c new (after_round c) after (λ short. short) refl

pub adopt_lasts : (c new : CoreState) (table : List Entry) → new ≡ after_adopt table c → KeepsSecondsAndGeneration c new
adopt_lasts c new table after = lasts_as c new (after_adopt table c) after (λ short. short) refl

pub unread_lasts : (c new : CoreState) → new ≡ after_not_read c → KeepsSecondsAndGeneration c new
unread_lasts c new after = lasts_as c new (after_not_read c) after (λ short. short) refl

pub unhanded_lasts : (c new : CoreState) → new ≡ after_handed c → KeepsSecondsAndGeneration c new
unhanded_lasts c new after = lasts_as c new (after_handed c) after (λ short. short) refl
