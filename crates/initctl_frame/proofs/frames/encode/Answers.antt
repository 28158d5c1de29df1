use Rattle.initctl_frame.proofs.Words.{rules, sym, ◌∙◌, ap, ◌^◌, ◌<◌, ℕ, heard_of_sign, heard_of, meaning_of}
use Rattle.std.specs.Prelude.{min}
use Rattle.init_words.specs.declared.limits.TheConstants.{GRACE_LIMIT}
use Rattle.initctl_frame.proofs.FrameLemmas.{level_read_back}
use Rattle.initctl_frame.proofs.frames.encode.Goals as goal

pub returns-in-Runlvl-clause-read_back : goal.returns-in-Runlvl-clause-read_back
returns-in-Runlvl-clause-read_back c =
    let seconds_fit : c.in-Runlvl.seconds < 2 ^ 16 = search rules in
    ap heard_of c.block_of_ints.ensures
    ∙ level_read_back c.code.result c.in-Runlvl.seconds c.code.type_inv seconds_fit
    ∙ ap (λ (code : ℕ). heard_of_sign code (min c.in-Runlvl.seconds GRACE_LIMIT)) c.code.ensures.value
    ∙ sym (ap meaning_of c.in-Runlvl.is)
