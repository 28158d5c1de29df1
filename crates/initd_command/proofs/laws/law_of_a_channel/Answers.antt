use Rattle.initd_command.proofs.Words.{◌≡◌, refl, sym, ◌∙◌, ap, ℕ, ◌%◌, List, [], ◌∷◌, ◌++◌, length, append-nil}
use Rattle.std.specs.Prelude.{Ok, Err}
use Rattle.host_calls.specs.declared.calls.Call.TheVariants as call
use Rattle.host_files.proofs.GrownLemmas.{all_read}
use Rattle.host_system.specs.Hearing.{bytes_taken}
use Rattle.supervisor.specs.Requests.{bytes_of}
use Rattle.initd_command.specs.Words.{HostCall}
use Rattle.initd_command.proofs.laws.law_of_a_channel.Goals as goal

-- the two definitions of the bytes that the calls returned agree
same_bytes : (calls : List HostCall) → bytes_of calls ≡ bytes_taken calls
same_bytes [] = refl
same_bytes (call.TakeBytes room (Ok bytes) ∷ calls) = ap (λ taken. taken ++ bytes) (same_bytes calls)
same_bytes (call.TakeBytes room (Err fault) ∷ calls) = same_bytes calls
same_bytes (call.Start id command reply ∷ calls) = same_bytes calls
same_bytes (call.Look id reply ∷ calls) = same_bytes calls
same_bytes (call.Signal id kind reply ∷ calls) = same_bytes calls
same_bytes (call.Late answer ∷ calls) = same_bytes calls
same_bytes (call.Clock reading ∷ calls) = same_bytes calls
same_bytes (call.ReadTables parts ∷ calls) = same_bytes calls
same_bytes (call.Carry text back ∷ calls) = same_bytes calls
same_bytes (call.Announce happening ∷ calls) = same_bytes calls
same_bytes (call.Pause ∷ calls) = same_bytes calls

pub returns : goal.returns
returns c calls channel device number text (handed, on) none of all =
    let (front, whole, requests) = all_read device number text channel.fresh channel.told on of all in (
      front,
      ap (λ bytes. front ++ bytes) (same_bytes calls ∙ sym (append-nil (bytes_taken calls))
          ∙ ap (λ rest. bytes_taken calls ++ rest) (sym none) ∙ handed) ∙ whole,
      requests,
    )
